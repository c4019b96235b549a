-- To take back what calls logged gives the bytes before them, and taking back keeps the number of bytes.
use Rattle.std.proofs.Common.{◌≡◌, ℕ, true, false, List, [], ◌∷◌, ◌++◌, length, Option, Some, None, is_some, refl, sym}
use Rattle.std.proofs.Common.{ap, ◌∙◌, arith}
use Rattle.std.proofs.lemmas.Grind.{common_steps}
use Rattle.undo_log.specs.declared.access.Access.{Access}
use Rattle.undo_log.specs.Number.{after_write, AreBytes}
use Rattle.undo_log.specs.Undo.{MemoryCall, Load, Store, access_of, after_call, after_calls, log_of_calls}
use Rattle.undo_log.specs.Undo.{after_restore, access_undone, undone, AllAccessible}
use Rattle.undo_log.proofs.Numbers.{after_write-restored, AreBytes-after_write, length-after_write}

AreBytes-after_call : (bytes : List ℕ) (call : MemoryCall) → AreBytes bytes → AreBytes (after_call bytes call)
AreBytes-after_call bytes (Load offset width) small = small
AreBytes-after_call bytes (Store offset width value) small = AreBytes-after_write bytes offset width value small

call_restored : (bytes : List ℕ) (call : MemoryCall) → AreBytes bytes
    → access_undone (access_of bytes call) (after_call bytes call) ≡ bytes
call_restored bytes (Load offset width) small = refl
call_restored bytes (Store offset width value) small = after_write-restored bytes offset width value small

pub undo_restores_lem : (bytes : List ℕ) (calls : List MemoryCall) → AreBytes bytes
    → undone (log_of_calls bytes calls) (after_calls bytes calls) ≡ bytes
undo_restores_lem bytes [] small = refl
undo_restores_lem bytes (call ∷ calls) small =
    ap (access_undone (access_of bytes call)) (undo_restores_lem (after_call bytes call) calls (AreBytes-after_call bytes call small))
    ∙ call_restored bytes call small

-- the last access is taken back first
pub undone-append : (log more : List Access) (bytes : List ℕ)
    → undone (log ++ more) bytes ≡ undone log (undone more bytes)
undone-append [] more bytes = refl
undone-append (access ∷ log) more bytes = ap (access_undone access) (undone-append log more bytes)

length-after_restore : (offset width old : ℕ) (new : Option ℕ) (bytes : List ℕ)
    → length (after_restore offset width old new bytes) ≡ length bytes
length-after_restore offset width old None bytes = refl
length-after_restore offset width old (Some value) bytes = length-after_write bytes offset width old

pub length-undone : (log : List Access) (bytes : List ℕ) → length (undone log bytes) ≡ length bytes
length-undone [] bytes = refl
length-undone (access ∷ log) bytes =
    length-after_restore access.offset access.width access.old access.new (undone log bytes) ∙ length-undone log bytes

after_restore-some : (offset width old : ℕ) (new : Option ℕ) (bytes : List ℕ) → is_some new ≡ true
    → after_restore offset width old new bytes ≡ after_write bytes offset width old
after_restore-some offset width old None bytes is = cc
after_restore-some offset width old (Some value) bytes is = refl

after_restore-none : (offset width old : ℕ) (new : Option ℕ) (bytes : List ℕ) → is_some new ≡ false
    → after_restore offset width old new bytes ≡ bytes
after_restore-none offset width old None bytes is = refl
after_restore-none offset width old (Some value) bytes is = cc

-- to take these accesses back from the bytes gives what taking the whole log back from the first bytes gives; each lies
-- within the bytes, and the first ones are as many
pub record AreLeft (log left : List Access) (initial bytes : List ℕ) : Type 0 where
  pub undone_is : undone left bytes ≡ undone log initial
  pub accessible : AllAccessible (length bytes) left
  pub size : length bytes ≡ length initial

accessible_front : (size : ℕ) (front : List Access) (access : Access) → AllAccessible size (front ++ access ∷ [])
    → AllAccessible size front
accessible_front size front access all k d below = grind (arith, common_steps, all k d)

module _ (log front left : List Access) (access : Access) (initial bytes : List ℕ) (last : left ≡ front ++ access ∷ []) (are : AreLeft log left initial bytes) where
  -- the last one is a store, and was taken back
  pub AreLeft-store : (new : List ℕ) → is_some access.new ≡ true
      → new ≡ after_write bytes access.offset access.width access.old → AreLeft log front initial new
  AreLeft-store new is now =
      let same : new ≡ access_undone access bytes = now ∙ sym (after_restore-some access.offset access.width access.old access.new bytes is) in
      let long : length new ≡ length bytes = ap length now ∙ length-after_write bytes access.offset access.width access.old in
      record {
        undone_is =
            ap (undone front) same ∙ sym (undone-append front (access ∷ []) bytes) ∙ ap (λ l. undone l bytes) (sym last)
            ∙ are.undone_is;
        accessible = rw long (accessible_front (length bytes) front access (rw last at are.accessible));
        size = long ∙ are.size;
      }

  -- the last one is a load
  pub AreLeft-load : is_some access.new ≡ false → AreLeft log front initial bytes
  AreLeft-load is =
      record {
        undone_is =
            ap (undone front) (sym (after_restore-none access.offset access.width access.old access.new bytes is))
            ∙ sym (undone-append front (access ∷ []) bytes) ∙ ap (λ l. undone l bytes) (sym last) ∙ are.undone_is;
        accessible = accessible_front (length bytes) front access (rw last at are.accessible);
        size = are.size;
      }

-- a call that is logged last leaves what the log gives back
pub undone-call : (log : List Access) (bytes : List ℕ) (call : MemoryCall) → AreBytes bytes
    → undone (log ++ access_of bytes call ∷ []) (after_call bytes call) ≡ undone log bytes
undone-call log bytes call small =
    undone-append log (access_of bytes call ∷ []) (after_call bytes call)
    ∙ ap (undone log) (call_restored bytes call small)
