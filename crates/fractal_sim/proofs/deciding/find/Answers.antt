use Rattle.std.proofs.Common.{◌≡◌, ◌≤◌, drop, length, map, Some, rules}
use Rattle.command_line.specs.Requests.{request_of_words, IsLimited}
use Rattle.guest_image.proofs.Proved.{size_within}
use Rattle.program_call.specs.Call.{input_of}
use Rattle.program_call.specs.Given.{ReadsImage}
use Rattle.program_call.proofs.Proved.{fault_given, image_given}
use Rattle.fractal_sim.specs.Given.{Reads, front}
use Rattle.fractal_sim.proofs.Found.{found_given}
use Rattle.fractal_sim.proofs.deciding.find.Goals as goal

pub split_at-requires : goal.split_at-requires
split_at-requires g c =
    let opened = c.in-Ok-read_input.opened in
    let is = c.in-Ok-read_input.ensures.opened.image_is in
    let within : opened.size ≤ length opened.bytes.items = size_within opened.bytes.items opened.image opened.size is in
    search (rules, within)

pub returns-in-Err : goal.returns-in-Err
returns-in-Err g c =
    let placers = map g.P.Placer.policy c.args.placers.items in
    let taps = map g.T.Tap.notes c.args.taps.items in
    let input = input_of c.args.words.now placers taps (g.S.Source.state c.args.source.now)
    (g.S.Source.state c.read_input.new.source) in
    let request = c.in-Ok.request in
    let asks : request_of_words input.words ≡ Some request = search rules in
    let reads : Reads request.command = search rules in
    record {
      found = fault_given front input request asks reads c.in-Err.fault c.in-Err.ensures.fault;
      writable = tt;
    }

pub returns : goal.returns
returns g c =
    let placers = map g.P.Placer.policy c.args.placers.items in
    let taps = map g.T.Tap.notes c.args.taps.items in
    let input = input_of c.args.words.now placers taps (g.S.Source.state c.args.source.now)
    (g.S.Source.state c.read_input.new.source) in
    let request = c.in-Ok.request in
    let opened = c.in-Ok-read_input.opened in
    let rest = c.split_at.result.1.now in
    let asks : request_of_words input.words ≡ Some request = search rules in
    let reads : Reads request.command = search rules in
    let within : IsLimited request = search rules in
    let behind : rest ≡ drop opened.size opened.bytes.items = search rules in
    let given : ReadsImage front input request opened.image rest =
    image_given front input request asks reads opened rest within c.in-Ok-read_input.ensures.opened behind in
    record {
      found = found_given input request opened.image rest c.find_behind.result given c.find_behind.ensures.found;
      writable = c.find_behind.ensures.writable;
    }
