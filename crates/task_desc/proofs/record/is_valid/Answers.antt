use Rattle.std.proofs.Common.{ℕ, ◌^◌, ◌==◌, ◌≤◌, Bool, nat_le, nat_lt, length, drop, arith, ap, sym, ◌∙◌, ◌&&◌}
use Rattle.std.specs.List.{list_all}
use Rattle.std.proofs.lemmas.List.{take_all, length-drop}
use Rattle.guest_image.specs.Numbers.{half_at}
use Rattle.task_desc.specs.declared.calls.TheConstants.{MAX_DEPTH}
use Rattle.task_desc.specs.Record.{is_record, fields_of}
use Rattle.task_desc.proofs.record.is_valid.Goals as goal

-- the test of a depth and kinds
abbrev test : ℕ → ℕ → Bool
test depth kinds = nat_le 1 depth && nat_le depth MAX_DEPTH && nat_lt kinds (2 ^ depth)

pub returns-then-is_of_depth-clause-value : goal.returns-then-is_of_depth-clause-value
unfolding is_record fields_of
returns-then-is_of_depth-clause-value c =
    let bytes = c.args.bytes.now in
    let long = length-drop 36 bytes in
    let short : length (drop 36 bytes) ≤ 28 = omega arith in
    let zeros = c.is_zero.ensures ∙ ap (list_all (λ byte. byte == 0)) (take_all 28 (drop 36 bytes) short) in
    let passed = sym c.if-is_of_depth.true ∙ c.is_of_depth.ensures.value ∙ ap (λ (n : ℕ). test n c.half-2.result) c.half.ensures ∙ ap (test (half_at bytes 32)) c.half-2.ensures in
    zeros ∙ ap (λ (b : Bool). b && list_all (λ byte. byte == 0) (drop 36 bytes)) passed
