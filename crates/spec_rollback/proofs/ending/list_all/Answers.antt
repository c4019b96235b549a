use Rattle.std.proofs.Common.{rules, arith, ◌≤◌, ◌++◌, sym, subst, length, take, drop, ℕ, Bool, List}
use Rattle.std.proofs.lemmas.List.Sums.{count_by-le-length}
use Rattle.abort_cascade.proofs.Proved.{listed_front}
use Rattle.spec_rollback.specs.Pulled.{ListsMarked}
use Rattle.spec_rollback.proofs.Marked.{put_back}
use Rattle.spec_rollback.proofs.ending.list_all.Goals as goal

pub returns-clause-listed : goal.returns-clause-listed
returns-clause-listed g c =
    let s = c.state.inside in
    let listed = c.list_marked.ensures in
    let upto = count_by-le-length (λ (mark : Bool). mark) c.as_slice.result.now in
    let slots = c.state.invariant.3 in
    let within : c.list_marked.result ≤ length c.list_marked.new.members =
    omega (
      arith,
      upto,
      listed.size,
      slots.marks,
      slots.members,
      c.list_marked.auto,
      c.as_slice.ensures.len,
      c.as_mut_slice-2.ensures.len,
    ) in
    let members = put_back s.members.len c.list_marked.new.members s.members.items (search rules) (search rules) in
    subst (λ (m : List Bool). ListsMarked
    (record {
      marks = m;
      members = take s.members.len
          (c.list_marked.new.members ++ drop (length c.list_marked.new.members) s.members.items);
    }) c.list_marked.result)
    c.as_slice.ensures.value
    (subst (λ (m : List ℕ). ListsMarked (record { marks = c.as_slice.result.now; members = m }) c.list_marked.result)
    (sym members)
    (record {
      marked = λ id. listed_front c.as_slice.result.now c.list_marked.new.members c.list_marked.result id within
          listed;
      count = listed.size;
      within = within;
    }))
