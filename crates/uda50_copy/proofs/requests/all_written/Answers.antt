use Rattle.std.proofs.Common.{◌≡◌, Some, inl, inr, sym, ap, ◌∙◌, arith}
use Rattle.std.specs.Prelude.{slice_get, option_map}
use Rattle.std.proofs.lemmas.Bool.{cases_lt}
use Rattle.std.proofs.lemmas.List.{length-map}
use Rattle.std.proofs.lemmas.Option.{slice_get-get_or, slice_get-map, slice_get_within}
use Rattle.uda_disk.specs.Values.{request_value, request_values, answer_value, answer_values}
use Rattle.uda50_copy.specs.Copy.{write_of}
use Rattle.uda50_copy.proofs.Pieces.{not_written}
use Rattle.uda50_copy.proofs.requests.all_written.Goals as goal
use Rattle.uda50_copy.proofs.requests.all_written.Goals.{in-Write+in_ok-written, in_default}

pub loop-k-preserved : goal.loop-k-preserved
loop-k-preserved c j lbn payload below asked = elim (cases_lt j c.loop-k.k) [
  | inl low ↦ c.loop-k.invariant j lbn payload low asked
  | inr high ↦
      let same : j ≡ c.loop-k.k = omega (arith, below, high) in
      elim c.match-request.branch [
        | in-Write+in_ok-written w ↦
            let here : slice_get c.args.answers.now c.loop-k.k ≡ Some w.index-answers-k.result =
            slice_get-get_or c.args.answers.now c.loop-k.k w.index-answers-k.result
            (omega (arith, c.loop-k-test.true, c.requires.counted)) ∙ ap Some (sym w.index-answers-k.is) in (
              answer_value w.index-answers-k.result,
              (
                ap (slice_get (answer_values c.args.answers.now)) same
                    ∙ slice_get-map answer_value c.args.answers.now c.loop-k.k ∙ ap (option_map answer_value) here,
                w.in_ok-written.ensures.written,
              ),
            )
        | in_default w ↦
            let here : slice_get c.args.writes.now c.loop-k.k ≡ Some c.index-writes-k.result =
            slice_get-get_or c.args.writes.now c.loop-k.k c.index-writes-k.result c.loop-k-test.true
            ∙ ap Some (sym c.index-writes-k.is) in
            let asked_here : Some (request_value c.index-writes-k.result) ≡ Some (write_of lbn payload) =
            sym (ap (slice_get (request_values c.args.writes.now)) same
            ∙ slice_get-map request_value c.args.writes.now c.loop-k.k ∙ ap (option_map request_value) here) ∙ asked in
            let is : request_value c.index-writes-k.result ≡ write_of lbn payload = cc in
            absurd (not_written c.index-writes-k.result lbn payload is w.in_default.not-Write)
      ]
]

pub returns : goal.returns
returns c = record {
  written = λ k lbn payload asked.
      let within = slice_get_within (request_values c.args.writes.now) k _ asked in
      c.loop-k.invariant k lbn payload
      (omega (arith, within, length-map c.args.writes.now request_value, c.loop-k-test.false)) asked;
}
