use Rattle.std.proofs.Common.{◌≡◌, ◌++◌, length, take, arith, length-append}
use Rattle.std.proofs.KnownBytes.{Consumes-trans}
use Rattle.std.proofs.lemmas.List.{length-take, length-take-le}
use Rattle.sim_io.proofs.whole.read_all.Goals as goal

pub returns-then-free-count-clause-long : goal.returns-then-free-count-clause-long
returns-then-free-count-clause-long g c = λ _.
    let new = take c.in-Ok.count c.read.new.buf in
    let part : length new ≡ c.in-Ok.count = length-take-le c.in-Ok.count c.read.new.buf c.in-Ok.ensures.bound.0 in
    record {
      found = c.chunks.bytes.items ++ new;
      taken =
          Consumes-trans (g.S.Source.state c.args.source.now).left (g.S.Source.state c.chunks.source).left (g.S.Source.state c.read.new.self).left c.chunks.bytes.items new c.chunks.invariant.taken c.in-Ok.ensures.bytes.0;
      past =
          omega (arith, length-append c.chunks.bytes.items new, part, c.chunks.invariant.within, c.len.ensures, c.if-free-count.true, c.chunk_len-wanted.ensures.most, c.in-Ok.ensures.bound, length-take c.chunk_len-wanted.result c.chunks.chunk);
    }

pub returns-then-is_err-clause-memory : goal.returns-then-is_err-clause-memory
returns-then-is_err-clause-memory g c = λ _.
    let new = take c.in-Ok.count c.read.new.buf in
    let part : length new ≡ c.in-Ok.count = length-take-le c.in-Ok.count c.read.new.buf c.in-Ok.ensures.bound.0 in
    record {
      found = c.chunks.bytes.items ++ new;
      taken =
          Consumes-trans (g.S.Source.state c.args.source.now).left (g.S.Source.state c.chunks.source).left (g.S.Source.state c.read.new.self).left c.chunks.bytes.items new c.chunks.invariant.taken c.in-Ok.ensures.bytes.0;
      within =
          omega (arith, length-append c.chunks.bytes.items new, part, c.chunks.invariant.within, c.len.ensures, c.if-free-count.false);
    }
