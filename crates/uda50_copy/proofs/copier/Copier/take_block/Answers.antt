use Rattle.std.proofs.Common.{rules, ◌≡◌, ◌+◌, ◌-◌, ◌∷◌, ◌++◌, [], ap, refl, ◌∙◌, subst, arith, ℕ}
use Rattle.std.proofs.lemmas.Result.{on_ok_weaker}
use Rattle.uda_disk.specs.Request.{Request}
use Rattle.uda_disk.specs.Values.{request_values, answer_value}
use Rattle.uda50_copy.specs.Changes.{ReturnsWhole}
use Rattle.uda50_copy.proofs.Pieces.{adds_piece}
use Rattle.uda50_copy.proofs.Told.{tells_lost_none, tells_lost_one}
use Rattle.uda50_copy.proofs.Gathered.{adds_written, adds_lost}
use Rattle.uda50_copy.proofs.Losses.{one_lost}
use Rattle.uda50_copy.proofs.copier.Copier.take_block.Goals as goal

pub returns-in_err-payload-clause-tells : goal.returns-in_err-payload-clause-tells
returns-in_err-payload-clause-tells g c = tells_lost_none _ _ _ _

pub returns-in-Bytes-clause-tells : goal.returns-in-Bytes-clause-tells
returns-in-Bytes-clause-tells g c = tells_lost_none _ _ _ _

pub returns-in-Bytes-clause-adds_all_but : goal.returns-in-Bytes-clause-adds_all_but
returns-in-Bytes-clause-adds_all_but g c =
    let old = request_values c.args.writes.now.items in
    let lbn = c.args.lbn in let answer = answer_value c.args.answer in
    let read = rw c.in-Bytes.is at c.in_ok-payload.ensures.reading in
    let one : 1 ≡ lbn + 1 - lbn = omega arith in
    on_ok_weaker c.add.result (λ added. adds_written c.args.self.now.skips_lost lbn (lbn + 1) _ _ answer
    c.in-Bytes.payload.items (ReturnsWhole answer lbn 1) (omega arith) read
    (added ∙ ap (λ (r : Request). old ++ r ∷ []) c.make_write.ensures.write) refl
    (λ blocks is. subst (λ (n : ℕ). ReturnsWhole answer lbn n blocks) one is)) c.add.ensures.added

pub returns-in-Bytes-clause-adds : goal.returns-in-Bytes-clause-adds
returns-in-Bytes-clause-adds g c =
    let old = request_values c.args.writes.now.items in
    let read = rw c.in-Bytes.is at c.in_ok-payload.ensures.reading in
    on_ok_weaker c.add.result (λ added all. adds_piece (answer_value c.args.answer) old
    (request_values c.add.new.writes.items) c.args.lbn 1 c.in-Bytes.payload.items read
    (added ∙ ap (λ (r : Request). old ++ r ∷ []) c.make_write.ensures.write)) c.add.ensures.added

pub returns-in-Failed-clause-tells : goal.returns-in-Failed-clause-tells
returns-in-Failed-clause-tells g c = tells_lost_none _ _ _ _

pub returns-in-Failed-2-clause-tells : goal.returns-in-Failed-2-clause-tells
returns-in-Failed-2-clause-tells g c =
    tells_lost_one c.args.self.now.skips_lost c.args.lbn _ _ (search rules) c.lost.ensures.told

pub returns-in-Failed-2-clause-adds_all_but : goal.returns-in-Failed-2-clause-adds_all_but
returns-in-Failed-2-clause-adds_all_but g c =
    adds_lost c.args.self.now.skips_lost c.args.lbn _ _ _ (search rules) refl c.lost.ensures.told

pub returns-in-Failed-2-clause-loses : goal.returns-in-Failed-2-clause-loses
returns-in-Failed-2-clause-loses g c =
    let failed = rw c.in-Failed-2.is at c.in_ok-payload.ensures.reading in
    one_lost _ _ c.args.lbn (answer_value c.args.answer) failed c.lost.ensures.told
