use Rattle.std.proofs.Common.{◌≡◌, ◌≤◌, [], drop, length, Some, rules}
use Rattle.guest_image.proofs.Proved.{size_within}
use Rattle.program_call.specs.Call.{input_of}
use Rattle.program_call.specs.Given.{ReadsImage}
use Rattle.program_call.proofs.Proved.{fault_given, image_given}
use Rattle.fractal_watch.specs.Given.{IsWithin, front}
use Rattle.fractal_watch.specs.Words.{asking_of_words}
use Rattle.fractal_watch.proofs.finding.find.Goals as goal

pub split_at-requires : goal.split_at-requires
split_at-requires g c =
    let opened = c.in-Ok-read_input.opened in
    let is = c.in-Ok-read_input.ensures.opened.image_is in
    let within : opened.size ≤ length opened.bytes.items = size_within opened.bytes.items opened.image opened.size is in
    search (rules, within)

pub returns-in-Err : goal.returns-in-Err
returns-in-Err g c = record {
  found = λ placers.
      let input = input_of c.args.words.now placers [] (g.S.Source.state c.args.source.now)
      (g.S.Source.state c.read_input.new.source) in
      let asking = c.in-Ok.asking in
      let asks : asking_of_words input.words ≡ Some asking = search rules in
      fault_given front input asking asks tt c.in-Err.fault c.in-Err.ensures.fault;
  playable = tt;
}

pub returns : goal.returns
returns g c = record {
  found = λ placers.
      let input = input_of c.args.words.now placers [] (g.S.Source.state c.args.source.now)
      (g.S.Source.state c.read_input.new.source) in
      let asking = c.in-Ok.asking in
      let opened = c.in-Ok-read_input.opened in
      let behind = c.split_at.result.1.now in
      let asks : asking_of_words input.words ≡ Some asking = search rules in
      let within : IsWithin asking = search rules in
      let rest : behind ≡ drop opened.size opened.bytes.items = search rules in
      let given : ReadsImage front input asking opened.image behind =
      image_given front input asking asks tt opened behind within c.in-Ok-read_input.ensures.opened rest in
      c.find_behind.ensures.found input given;
  playable = c.find_behind.ensures.playable;
}
