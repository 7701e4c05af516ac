use Rattle.std.proofs.Common.{◌≡◌, ◌∷◌, ◌++◌, ◌-◌, [], min, ap, ◌∙◌, arith}
use Rattle.std.proofs.lemmas.List.{map_push}
use Rattle.uda_disk.specs.Request.{Request}
use Rattle.uda_disk.specs.Values.{request_value, request_values}
use Rattle.uda50_copy.specs.Copy.{read_of}
use Rattle.uda50_copy.proofs.Pieces.{reads_more}
use Rattle.uda50_copy.proofs.requests.source_reads.Goals as goal

pub loop-lbn-preserved : goal.loop-lbn-preserved
loop-lbn-preserved c =
    let lbn = c.loop-lbn.lbn in
    let count : c.min-count.result ≡ min c.args.piece (c.args.blocks.end - lbn) = omega arith in
    let made : request_value c.make_read.result ≡ read_of lbn c.min-count.result = c.make_read.ensures.read in
    let front = request_values c.loop-lbn.requests.items in
    let values : request_values c.push.new.self.items ≡ front ++ read_of lbn (min c.args.piece (c.args.blocks.end - lbn)) ∷ [] =
    ap request_values c.in_ok-push.ensures.items ∙ map_push request_value c.loop-lbn.requests.items c.make_read.result
    ∙ ap (λ (r : Request). front ++ r ∷ []) (made ∙ ap (read_of lbn) count) in
    rw (values, count)
    (reads_more c.args.blocks.start c.args.blocks.end c.args.piece lbn front c.requires.some c.loop-lbn-test.true
    c.loop-lbn.invariant)
