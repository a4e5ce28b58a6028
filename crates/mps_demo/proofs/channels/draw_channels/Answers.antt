use Rattle.std.proofs.Common.{◌≡◌, ◌+◌, ◌*◌, ◌∙◌, ap, length, arith, lit<}
use Rattle.std.proofs.lemmas.List.FromFn.{length-map-range_with_len}
use Rattle.path_stream.specs.Words.{Place}
use Rattle.mps_demo.specs.Drawn.{place_in}
use Rattle.mps_demo.specs.Image.{channel_of}
use Rattle.mps_demo.proofs.Growing.{one_more}
use Rattle.mps_demo.proofs.channels.draw_channels.Goals as goal

pub push-requires : goal.push-requires
push-requires c =
    let count : length c.loop-number.channels.items ≡ c.loop-number.number =
    ap length c.loop-number.invariant.channels ∙ length-map-range_with_len (channel_of c.args.words.now.seed) 0 c.loop-number.number in
    (lit< tt, omega arith)

pub loop-number-preserved : goal.loop-number-preserved
loop-number-preserved c =
    let n = c.loop-number.number in
    let given = c.loop-number.invariant in
    let seed = ap (λ (p : Place). p.seed) given.words in
    record {
      channels = one_more (channel_of c.args.words.now.seed) c.loop-number.channels.items c.push.new.self.items c.draw_channel.result n given.channels c.push.ensures.items (c.draw_channel.ensures.channel ∙ ap (λ s. channel_of s n) seed);
      words = c.draw_channel.ensures.words ∙ ap (λ s. place_in s (2 * (n + 1))) seed;
    }
