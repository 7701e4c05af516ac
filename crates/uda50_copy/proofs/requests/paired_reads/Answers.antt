use Rattle.std.proofs.Common.{◌≡◌, ◌∷◌, ◌++◌, ◌-◌, [], min, All, List, ap, subst, ◌∙◌, arith, append-nil, append_assoc}
use Rattle.std.proofs.lemmas.List.{map_push}
use Rattle.std.proofs.lemmas.List.Elements.{All-nil}
use Rattle.uda_disk.specs.Request.{Request}
use Rattle.uda_disk.specs.Values.{request_value, request_values}
use Rattle.uda50_copy.specs.Copy.{read_from, ArePairedReads, WritesNothing}
use Rattle.uda50_copy.proofs.Pieces.{nothing_more}
use Rattle.uda50_copy.proofs.Pairs.{pairs_more}
use Rattle.uda50_copy.proofs.requests.paired_reads.Goals as goal

pub loop-lbn-init : goal.loop-lbn-init
loop-lbn-init c = (rw c.new-requests.ensures.items (All-nil WritesNothing), rw c.new-requests.ensures.items (λ more h. h))

pub loop-lbn-preserved : goal.loop-lbn-preserved
loop-lbn-preserved c =
    let lbn = c.loop-lbn.lbn in let items = c.loop-lbn.requests.items in
    let r = request_value c.make_read.result in let s = request_value c.make_read-in-loop-lbn.result in
    let count : c.min-count.result ≡ min c.args.piece (c.args.blocks.end - lbn) = omega arith in
    let source : All WritesNothing (request_values c.push.new.self.items) = rw c.in_ok-push.ensures.items
    (nothing_more items c.make_read.result c.loop-lbn.invariant.0 c.make_read.ensures.writes_nothing) in
    let values : request_values c.push-in-loop-lbn.new.self.items ≡ request_values items ++ r ∷ s ∷ [] =
    ap request_values c.in_ok-push-2.ensures.items
    ∙ map_push request_value c.push.new.self.items c.make_read-in-loop-lbn.result
    ∙ ap (λ (l : List Request). l ++ s ∷ []) (ap request_values c.in_ok-push.ensures.items
    ∙ map_push request_value items c.make_read.result)
    ∙ append_assoc (request_values items) (r ∷ []) (s ∷ []) in (
      rw c.in_ok-push-2.ensures.items
          (nothing_more c.push.new.self.items c.make_read-in-loop-lbn.result source
          c.make_read-in-loop-lbn.ensures.writes_nothing),
      rw (values, count)
          (pairs_more c.args.blocks.start c.args.blocks.end c.args.piece lbn (request_values items) r s
          c.loop-lbn-test.true (c.make_read.ensures.read ∙ ap (read_from 0 lbn) count)
          (c.make_read-in-loop-lbn.ensures.read ∙ ap (read_from 1 lbn) count) c.loop-lbn.invariant.1),
    )

pub returns-clause-reads : goal.returns-clause-reads
returns-clause-reads c =
    subst (λ (l : List Request). ArePairedReads c.args.piece l c.args.blocks.start c.args.blocks.end)
    (append-nil (request_values c.loop-lbn.requests.items)) (c.loop-lbn.invariant.1 [] c.loop-lbn-test.false)
