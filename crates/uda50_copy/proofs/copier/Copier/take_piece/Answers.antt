use Rattle.std.proofs.Common.{◌≡◌, ◌∷◌, ◌++◌, [], ◌+◌, ◌-◌, ap, refl, subst, ◌∙◌, arith}
use Rattle.std.proofs.lemmas.Result.{on_ok_weaker}
use Rattle.uda_disk.specs.Request.{Request}
use Rattle.uda_disk.specs.Values.{request_values, answer_value}
use Rattle.uda50_copy.specs.Copy.{units_in, source_of, AddsPieces}
use Rattle.uda50_copy.proofs.Pieces.{changes_no_block_none, adds_piece}
use Rattle.uda50_copy.proofs.Told.{tells_lost_none}
use Rattle.uda50_copy.proofs.Gathered.{adds_piece_written, adds_of}
use Rattle.uda50_copy.proofs.copier.Copier.take_piece.Goals as goal

pub returns-in-Bytes-clause-changes_no_block : goal.returns-in-Bytes-clause-changes_no_block
returns-in-Bytes-clause-changes_no_block g c = changes_no_block_none _

pub returns-in_err-payload-clause-tells : goal.returns-in_err-payload-clause-tells
returns-in_err-payload-clause-tells g c = tells_lost_none _ _ _ _

pub returns-in-Bytes-clause-tells : goal.returns-in-Bytes-clause-tells
returns-in-Bytes-clause-tells g c = tells_lost_none _ _ _ _

pub returns-in-Bytes-clause-adds_all_but : goal.returns-in-Bytes-clause-adds_all_but
returns-in-Bytes-clause-adds_all_but g c =
    let old = request_values c.args.writes.now.items in
    let read = rw c.in-Bytes.is at c.in_ok-payload.ensures.reading in
    on_ok_weaker c.add.result (λ added. adds_piece_written c.args.self.now.skips_lost c.args.piece.start
    c.args.piece.end _ _ (answer_value c.args.answer) c.in-Bytes.payload.items (units_in c.args.self.now)
    (omega (arith, c.requires.some)) read
    (added ∙ ap (λ (r : Request). old ++ r ∷ []) c.make_write.ensures.write) refl) c.add.ensures.added

pub returns-in-Failed-clause-adds_all_but : goal.returns-in-Failed-clause-adds_all_but
returns-in-Failed-clause-adds_all_but g c =
    on_ok_weaker c.read_singly.result (λ adds. adds_of _ _ _ _ _ (λ blocks is. is.1) adds)
    c.read_singly.ensures.adds_all_but

pub returns-in-Bytes-clause-adds : goal.returns-in-Bytes-clause-adds
returns-in-Bytes-clause-adds g c =
    let old = request_values c.args.writes.now.items in
    let new = request_values c.add.new.writes.items in
    let start = c.args.piece.start in let stop = c.args.piece.end in
    let blocks = source_of (units_in c.args.self.now) in
    let read = rw c.in-Bytes.is at c.in_ok-payload.ensures.reading in
    let last : start + (stop - start) ≡ stop = omega (arith, c.requires.some) in
    on_ok_weaker c.add.result (λ added returned. record {
      changes_no_block = changes_no_block_none _;
      adds = λ all whole sound. subst (AddsPieces blocks old new start) last
          (adds_piece (answer_value c.args.answer) old new start (stop - start) c.in-Bytes.payload.items read
          (added ∙ ap (λ (r : Request). old ++ r ∷ []) c.make_write.ensures.write) blocks returned);
    }) c.add.ensures.added

pub returns-in-Failed-clause-adds : goal.returns-in-Failed-clause-adds
returns-in-Failed-clause-adds g c =
    on_ok_weaker c.read_singly.result (λ gathered returned. gathered) c.read_singly.ensures.gathers

pub returns-in_err-payload-clause-loses_failed : goal.returns-in_err-payload-clause-loses_failed
returns-in_err-payload-clause-loses_failed g c = λ sound. omega arith

pub returns-in-Bytes-clause-loses_failed : goal.returns-in-Bytes-clause-loses_failed
returns-in-Bytes-clause-loses_failed g c = λ sound. omega arith
