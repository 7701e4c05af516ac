-- The answers before anything is posted.
use Rattle.std.proofs.Common.{◌≡◌, ℕ, ◌<◌, ◌≤◌, inl, inr, true, false, List, [], ◌∷◌, ◌++◌, length, take, drop, get_or, Some, refl, sym, ap, ◌∙◌, arith, subst₂}
use Rattle.std.specs.Prelude.{slice_get, option_map}
use Rattle.std.proofs.lemmas.List.{length_push, take-take}
use Rattle.std.proofs.lemmas.Bool.{cases_eq}
use Rattle.std.proofs.lemmas.Bool.Decides.{nat_tests}
use Rattle.std.proofs.lemmas.Option.{slice_get_within, slice_get-map, slice_get-get_or}
use Rattle.uda_mem.specs.Put.{part}
use Rattle.uda_packet.specs.declared.end.End.{End}
use Rattle.uda_exec.specs.Commands.{buffer_start, buffer_length}
use Rattle.uda_exec.specs.Execution.{bytes_of}
use Rattle.uda_disk.specs.Request.{Act, Request, Online, Available, Status, Read, Access, Write, Erase}
use Rattle.uda_disk.specs.InOrderRun.{too_long}
use Rattle.uda_disk.specs.Answer.{Data}
use Rattle.uda_posting.specs.Posting.{op_of, answer_of}
use Rattle.uda_disk.specs.Values.{request_value, answer_value, request_values}
use Rattle.uda_disk.specs.declared.request.Request.{Request as CodeRequest}
use Rattle.uda_disk.specs.declared.answer.Answer.{Answer as CodeAnswer}
use Rattle.uda_disk.specs.declared.answer.Answer.TheVariants.{TooLong}
use Rattle.uda_disk.proofs.Lists.{slice_get-last, slice_get-before}
use Rattle.uda_driver.specs.Blank.{Prepared, IsBlank, AreBlank}

pub blank_more : (requests : List CodeRequest) (i : ℕ) (answers : List CodeAnswer) (request : CodeRequest)
    (a : CodeAnswer) → length answers ≡ i → i < length requests → request ≡ get_or requests i request
    → (too_long (request_value request) ≡ true → a ≡ TooLong)
    → (too_long (request_value request) ≡ false → Prepared (request_value request) a)
    → AreBlank (request_values requests) 0 answers → AreBlank (request_values requests) 0 (answers ++ a ∷ [])
blank_more requests i answers request a size lt is long room all k r b le at told =
    elim (cases_eq k i) [
      | inl same ↦
          let last : Some a ≡ Some b = sym (slice_get-last answers k a (same ∙ sym size)) ∙ told in
          let b_is : a ≡ b = cc in
          let stands : slice_get (request_values requests) k ≡ Some (request_value request) =
          ap (slice_get (request_values requests)) same ∙ slice_get-map request_value requests i
          ∙ ap (option_map request_value) (slice_get-get_or requests i request lt
          ∙ ap (λ (x : CodeRequest). Some x) (sym is)) in
          let both : Some r ≡ Some (request_value request) = sym at ∙ stands in
          let r_is : request_value request ≡ r = cc in
          subst₂ IsBlank r_is b_is (record { long = long; room = room })
      | inr other ↦
          let low : k < length answers = omega (
            arith,
            slice_get_within (answers ++ a ∷ []) k b told,
            length_push answers a,
          ) in
          all k r b le at (sym (slice_get-before answers a k low) ∙ told)
    ]

-- ---- an answer made from an end message reads no more of a buffer than its command has

small_read : (unit lbn bytes size : ℕ) → too_long (record { unit = unit; act = Read lbn bytes }) ≡ false
    → size ≡ 16384 → bytes ≤ size
small_read unit lbn bytes size short is = grind (arith, nat_tests)

answer-in_buffer : (unit : ℕ) (act : Act) (e : End) (memory : List ℕ) (address size : ℕ)
    → too_long (record { unit = unit; act = act }) ≡ false → size ≡ 16384
    → answer_of act e (take (buffer_length (op_of act 0)) (part memory address size)) ≡ answer_of act e
    (part memory (buffer_start (op_of act address)) (buffer_length (op_of act address)))
unfolding part
answer-in_buffer unit (Read lbn bytes) e memory address size short is =
    ap (λ (b : List ℕ). Data e.status (take (bytes_of e.body) b))
    (take-take bytes size (drop address memory) (small_read unit lbn bytes size short is))
answer-in_buffer unit (Online protect) e memory address size short is = refl
answer-in_buffer unit Available e memory address size short is = refl
answer-in_buffer unit Status e memory address size short is = refl
answer-in_buffer unit (Access lbn bytes) e memory address size short is = refl
answer-in_buffer unit (Write lbn payload) e memory address size short is = refl
answer-in_buffer unit (Erase lbn bytes) e memory address size short is = refl

-- the answer depends on the request's end message and its buffer
pub answer_told : (r : Request) (e : End) (memory : List ℕ) (address : ℕ) (told : CodeAnswer)
    → too_long r ≡ false
    → answer_value told ≡ answer_of r.act e (take (buffer_length (op_of r.act 0)) (part memory address 16384))
    → answer_value told ≡ answer_of r.act e
    (part memory (buffer_start (op_of r.act address)) (buffer_length (op_of r.act address)))
answer_told r e memory address told short tells = tells
    ∙ answer-in_buffer r.unit r.act e memory address 16384 short refl
