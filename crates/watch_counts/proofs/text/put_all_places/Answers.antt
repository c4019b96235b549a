use Rattle.watch_counts.specs.Texts.{places_text}
use Rattle.watch_counts.proofs.Joined.{four_texts}
use Rattle.watch_counts.proofs.text.put_all_places.Goals as goal

pub returns : goal.returns
unfolding places_text
returns c =
    four_texts _ _ _ _ _ _ _ _ _ _ c.in_ok-put_places.ensures c.in_ok-put_places-2.ensures c.in_ok-put_places-3.ensures
    c.put_places-4.ensures
