use Rattle.std.proofs.Common.{rules, ◌≡◌, ◌+◌, ◌<◌, [], ◌∷◌, ◌++◌, length, refl, ◌∙◌}
use Rattle.conflict_book.specs.BookViews.{view_of}
use Rattle.step_script.proofs.Played.{one_more, some_played}
use Rattle.step_script.proofs.playing.play.Goals as goal

pub returns-in_err-said-clause-out_of_memory : goal.returns-in_err-said-clause-out_of_memory
returns-in_err-said-clause-out_of_memory g c =
    let old = view_of g.P.Placer.policy g.T.Tap.notes c.args.book.now in
    some_played g.row.N.Denot g.N.Naming.image c.args.acts.now 0 old old old [] [] c.from_residual.result refl refl

pub returns-in_err-one-clause-out_of_memory : goal.returns-in_err-one-clause-out_of_memory
returns-in_err-one-clause-out_of_memory g c =
    let seen = view_of g.P.Placer.policy g.T.Tap.notes in
    some_played g.row.N.Denot g.N.Naming.image c.args.acts.now c.loop-act.act-index (seen c.args.book.now) (seen c.loop-act.book)
    (seen c.play_act.new.book) c.loop-act.said.items c.loop-act.player.held c.from_residual-in_err-one.result
    c.loop-act.invariant.played c.in_err-one.ensures.out_of_memory

pub returns-in_err-push-clause-out_of_memory : goal.returns-in_err-push-clause-out_of_memory
returns-in_err-push-clause-out_of_memory g c =
    let seen = view_of g.P.Placer.policy g.T.Tap.notes in
    let told = c.loop-act.said.items ++ c.in_ok-one.one ∷ [] in
    let inside : c.loop-act.act-index < length c.args.acts.now = search rules in
    some_played g.row.N.Denot g.N.Naming.image c.args.acts.now (c.loop-act.act-index + 1) (seen c.args.book.now) (seen c.play_act.new.book)
    (seen c.play_act.new.book) told c.play_act.new.player.held c.from_residual-in_err-push.result
    (one_more g.row.N.Denot g.N.Naming.image c.args.acts.now c.loop-act.act-index _ _ _ _ c.loop-act.said.items told c.in_ok-one.one
    inside c.loop-act.invariant.played c.in_ok-one.ensures.does refl)
    refl

pub loop-act-preserved : goal.loop-act-preserved
loop-act-preserved g c =
    let inside : c.loop-act.act-index < length c.args.acts.now = search rules in
    let told : c.push.new.self.items ≡ c.loop-act.said.items ++ c.in_ok-one.one ∷ [] = search rules in
    record {
      played =
          one_more g.row.N.Denot g.N.Naming.image c.args.acts.now c.loop-act.act-index _ _ _ _ c.loop-act.said.items
          c.push.new.self.items c.in_ok-one.one inside c.loop-act.invariant.played c.in_ok-one.ensures.does told;
      settings = c.play_act.ensures.settings ∙ c.loop-act.invariant.settings;
    }
