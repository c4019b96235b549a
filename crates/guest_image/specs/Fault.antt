-- How a fault of an image is reported: its number, and an offset in the bytes.
use Rattle.std.specs.Prelude.{ℕ}
use Rattle.guest_image.specs.declared.fault.ImageFault.{ImageFault}
use Rattle.guest_image.specs.declared.fault.ImageFault.TheVariants.{Short, Magic, Version, RootKind, Limit, Window}
use Rattle.guest_image.specs.declared.fault.ImageFault.TheVariants.{NoTask, Memory}

-- the faults are numbered from 1 in the order of the variants; want of memory isn't a fault of the bytes
abbrev pub fault_number : ImageFault → ℕ
fault_number (Short need have) = 1
fault_number Magic = 2
fault_number (Version found) = 3
fault_number (RootKind found) = 4
fault_number (Limit field value) = 5
fault_number Window = 6
fault_number NoTask = 7
fault_number Memory = 0

-- the offset of the field at fault; the number of bytes where they are too few
abbrev pub fault_offset : ImageFault → ℕ
fault_offset (Short need have) = have
fault_offset Magic = 0
fault_offset (Version found) = 4
fault_offset (RootKind found) = 6
fault_offset (Limit field value) = field
fault_offset Window = 20
fault_offset NoTask = 28
fault_offset Memory = 0
