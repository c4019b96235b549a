-- Accesses of two lines share no byte.
use Rattle.std.proofs.Common.{◌≡◌, ◌≢◌, ◌⊎◌, ℕ, ◌+◌, ◌*◌, ◌/◌, ◌%◌, ◌<◌, ◌≤◌, inl, inr, arith, subst}
use Rattle.std.proofs.Math.Nat.{div-add-mod, mod-lt}
use Rattle.undo_log.specs.Number.{IsAccessible}
use Rattle.memory_law.specs.Accesses.{Apart}
use Rattle.memory_law.specs.Tasks.{IsLineSize}

-- an access ends within each multiple of 4 that it begins before
ends_within : (size o w x : ℕ) → IsAccessible size o w → o < 4 * x → o + w ≤ 4 * x
ends_within size o w x access before = elim access.width_is [
  | inl one ↦ omega arith
  | inr more ↦ elim more [
    | inl two ↦ let m : o % 2 ≡ 0 = subst (λ v. o % v ≡ 0) two access.aligned in omega (arith, div-add-mod o 2)
    | inr four ↦ let m : o % 4 ≡ 0 = subst (λ v. o % v ≡ 0) four access.aligned in omega (arith, div-add-mod o 4)
  ]
]

-- an access to a line ends before one to a later line begins
before_later : (size o w b c : ℕ) → 0 < c → IsAccessible size o w → o / (4 * c) < b / (4 * c) → o + w ≤ b
before_later size o w b c some access earlier =
    let room : o % (4 * c) < 4 * c = mod-lt o (omega arith) in
    let start : 4 * c * (b / (4 * c)) ≤ b = omega (arith, div-add-mod b (4 * c)) in
    let step : 4 * c * (o / (4 * c) + 1) ≤ 4 * c * (b / (4 * c)) = grind arith in
    let below : o < 4 * (c * (o / (4 * c) + 1)) = omega (arith, div-add-mod o (4 * c)) in
    omega (arith, ends_within size o w (c * (o / (4 * c) + 1)) access below)

fours_apart : (size o w b u c : ℕ) → 0 < c → IsAccessible size o w → IsAccessible size b u → o / (4 * c) ≢ b / (4 * c)
    → Apart o w b u
fours_apart size o w b u c some first second differ =
    let split : (o / (4 * c) < b / (4 * c)) ⊎ (b / (4 * c) < o / (4 * c)) = grind arith in
    elim split [
      | inl earlier ↦ inl (before_later size o w b c some first earlier)
      | inr later ↦ inr (before_later size b u o c some second later)
    ]

pub lines_apart : (size o w b u line : ℕ) → IsLineSize line → IsAccessible size o w → IsAccessible size b u
    → o / line ≢ b / line → Apart o w b u
lines_apart size o w b u line sized first second differ =
    let quarters : 4 * (line / 4) ≡ line = omega (arith, div-add-mod line 4, sized.fours) in
    let some : 0 < line / 4 = omega (arith, sized.some, quarters) in
    fours_apart size o w b u (line / 4) some first second (λ same. differ (subst (λ n. o / n ≡ b / n) quarters same))
