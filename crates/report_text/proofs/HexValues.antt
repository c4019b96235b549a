-- Pairs of hexadecimal digits read one after another behind what was read, and a bound for eight digits.
use Rattle.std.proofs.Common.{◌≡◌, ℕ, zero, suc, ◌+◌, ◌*◌, ◌^◌, ◌<◌, List, [], ◌∷◌, ◌++◌, Some, None, refl, ap, sym}
use Rattle.std.proofs.Common.{◌∙◌, arith, option_map, append_assoc}
use Rattle.std.specs.declared.option.Option.{Option}
use Rattle.std.proofs.lemmas.List.{append-nil}
use Rattle.report_text.specs.Hex.{hex_value, hex_bytes}

on_front : (front : List ℕ) (v : ℕ) (o : Option (List ℕ))
    → option_map (λ r. (front ++ v ∷ []) ++ r) o ≡ option_map (λ r. front ++ r) (option_map (λ r. v ∷ r) o)
on_front front v None = refl
on_front front v (Some r) = ap Some (append_assoc front (v ∷ []) r)

pub hex_step : (front rest tail after : List ℕ) (a b x y : ℕ) → rest ≡ a ∷ tail → tail ≡ b ∷ after
    → hex_value a ≡ Some x → hex_value b ≡ Some y
    → option_map (λ r. (front ++ (x * 16 + y) ∷ []) ++ r) (hex_bytes after) ≡ option_map (λ r. front ++ r) (hex_bytes rest)
hex_step front rest tail after a b x y e f g h =
    on_front front (x * 16 + y) (hex_bytes after)
    ∙ ap (option_map (λ r. front ++ r)) (sym (ap hex_bytes (e ∙ ap (λ t. a ∷ t) f) ∙ pair)) where
      pair : hex_bytes (a ∷ b ∷ after) ≡ option_map (λ r. (x * 16 + y) ∷ r) (hex_bytes after)
      pair = rw (g, h) refl

none_of : (front : List ℕ) (o : Option (List ℕ)) → o ≡ None → option_map (λ r. front ++ r) o ≡ None
none_of front o e = rw e refl

pub hex_odd : (front rest tail : List ℕ) (a : ℕ) → rest ≡ a ∷ tail → tail ≡ []
    → option_map (λ r. front ++ r) (hex_bytes rest) ≡ None
hex_odd front rest tail a e f = none_of front (hex_bytes rest) (ap hex_bytes (e ∙ ap (λ t. a ∷ t) f))

pub hex_wrong_first : (front rest tail after : List ℕ) (a b : ℕ) → rest ≡ a ∷ tail → tail ≡ b ∷ after
    → hex_value a ≡ None → option_map (λ r. front ++ r) (hex_bytes rest) ≡ None
hex_wrong_first front rest tail after a b e f g =
    none_of front (hex_bytes rest) (ap hex_bytes (e ∙ ap (λ t. a ∷ t) f) ∙ rw g refl)

pub hex_wrong_second : (front rest tail after : List ℕ) (a b x : ℕ) → rest ≡ a ∷ tail → tail ≡ b ∷ after
    → hex_value a ≡ Some x → hex_value b ≡ None → option_map (λ r. front ++ r) (hex_bytes rest) ≡ None
hex_wrong_second front rest tail after a b x e f g h =
    none_of front (hex_bytes rest) (ap hex_bytes (e ∙ ap (λ t. a ∷ t) f) ∙ rw (g, h) refl)

pub hex_end : (front rest : List ℕ) → rest ≡ [] → option_map (λ r. front ++ r) (hex_bytes rest) ≡ Some front
hex_end front rest e = ap (λ t. option_map (λ r. front ++ r) (hex_bytes t)) e ∙ ap Some (append-nil front)

pub hex_start : (o : Option (List ℕ)) → option_map (λ r. [] ++ r) o ≡ o
hex_start None = refl
hex_start (Some r) = refl

-- eight digits stay below 2 ^ 32
pub bounded : (acc i x : ℕ) → acc < 16 ^ i → i < 8 → x < 16 → acc * 16 + x < 2 ^ 32
bounded acc zero x h l s = omega (arith, h, s)
bounded acc (suc zero) x h l s = omega (arith, h, s)
bounded acc (suc (suc zero)) x h l s = omega (arith, h, s)
bounded acc (suc (suc (suc zero))) x h l s = omega (arith, h, s)
bounded acc (suc (suc (suc (suc zero)))) x h l s = omega (arith, h, s)
bounded acc (suc (suc (suc (suc (suc zero))))) x h l s = omega (arith, h, s)
bounded acc (suc (suc (suc (suc (suc (suc zero)))))) x h l s = omega (arith, h, s)
bounded acc (suc (suc (suc (suc (suc (suc (suc zero))))))) x h l s = omega (arith, h, s)
bounded acc (suc (suc (suc (suc (suc (suc (suc (suc i)))))))) x h l s = absurd (omega (arith, l))

-- what pairs of digits are, by whether the next two are digits
pub ruleset hex_pairs = (hex_step, hex_odd, hex_wrong_first, hex_wrong_second, hex_end, hex_start)
