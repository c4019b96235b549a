use Rattle.std.proofs.Common.{◌≡◌, [], ◌∷◌, ◌++◌, Some, ap, ◌∙◌}
use Rattle.undo_log.specs.Undo.{Store, access_of, undone}
use Rattle.undo_log.proofs.Restores.{undone-call}
use Rattle.undo_log.proofs.calls.store.Goals as goal

pub returns-clause-kept : goal.returns-clause-kept
returns-clause-kept c =
    let call = Store c.args.offset c.args.width c.args.value in
    let logged : c.push.new.self ≡ c.args.log.now ++ access_of c.args.memory.now call ∷ [] =
    c.in_ok-push.ensures.ok
    ∙ ap (λ old. c.args.log.now ++ record { offset = c.args.offset; width = c.args.width; old = old; new = Some c.args.value } ∷ []) c.number-old.ensures.value
    in
    ap (λ log. undone log c.write.new.self) logged
    ∙ ap (undone (c.args.log.now ++ access_of c.args.memory.now call ∷ [])) c.write.ensures
    ∙ undone-call c.args.log.now c.args.memory.now call c.number-old.ensures.below_256
