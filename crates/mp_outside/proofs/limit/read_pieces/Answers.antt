use Rattle.std.proofs.Common.{◌≡◌, ◌∙◌, ap, ◌+◌, ◌≤◌, ◌++◌, length, length-append, take, drop, subst, sym, Ok, arith, IsTrue}
use Rattle.std.proofs.lemmas.List.{length-take, length-take-le, take-append-le}
use Rattle.mp_outside.specs.Contents.{ReadsAt}
use Rattle.mp_outside.proofs.Reading.{IsFrontOf, only_reads_on, front_after_read}
use Rattle.mp_outside.proofs.limit.read_pieces.Goals as goal

pub loop-bytes-preserved : goal.loop-bytes-preserved
loop-bytes-preserved g c =
    let got = c.loop-bytes.bytes.items in
    let count = c.in_ok-count.count in
    let piece = take count c.read_at.new.buf in
    let fits : count ≤ length c.read_at.new.buf = c.in_ok-count.ensures.bound in
    let room : length c.read_at.new.buf ≤ c.min-room.result = omega (arith, c.read_at.auto.buf, length-take c.min-room.result c.loop-bytes.buf) in
    let whole = drop c.min-room.result c.loop-bytes.buf in
    let items : c.extend_from_slice.new.self.items ≡ got ++ piece =
    c.in_ok-extend_from_slice.ensures.items ∙ ap (λ xs. got ++ xs) (take-append-le count c.read_at.new.buf whole fits) in
    let long : length (got ++ piece) ≡ length got + count = length-append got piece ∙ ap (λ n. length got + n) (length-take-le count c.read_at.new.buf fits) in
    record {
      size = omega (arith, ap length items, long, fits, room);
      uncounted = λ name. c.in_ok-count.ensures.uncounted name ∙ c.loop-bytes.invariant.uncounted name;
      only = only_reads_on (g.F.Files.seen c.args.files.now) (g.F.Files.seen c.loop-bytes.files) (g.F.Files.seen c.read_at.new.self) c.loop-bytes.invariant.only c.in_ok-count.ensures.only;
      front = λ told.
          let before = (g.F.Files.seen c.args.files.now).held c.args.name.now in
          let now = (g.F.Files.seen c.loop-bytes.files).held c.args.name.now in
          let told_now : IsTrue (g.F.Files.seen c.loop-bytes.files).tells = c.loop-bytes.invariant.only.tells_same ∙ told in
          let at : c.len-at.result ≡ length got = omega arith in
          let read = subst (λ n. ReadsAt now n (Ok count) c.read_at.new.buf) at (c.in_ok-count.ensures.bytes told_now) in
          subst (IsFrontOf before) (sym items)
          (front_after_read before now got c.read_at.new.buf count (c.loop-bytes.invariant.only.held_same c.args.name.now) (c.loop-bytes.invariant.front told) read fits);
    }
