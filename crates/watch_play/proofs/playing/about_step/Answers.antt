use Rattle.watch_play.proofs.playing.about_step.Goals as goal

pub about_taken-requires-clause-takes : goal.about_taken-requires-clause-takes
about_taken-requires-clause-takes g c = c.requires.takes c.in-Ready.tile c.in-Ready.core c.in-Ready.is
