-- Written field by field, an end message for a guest is the text that is written at once.
use Rattle.std.proofs.Common.{◌≡◌, ℕ, ◌==◌, Bool, true, false, Option, Some, None, List, [], ◌∷◌, refl, ap, ◌∙◌}
use Rattle.uda_packet.specs.declared.reply.Reply.{Reply}
use Rattle.uda_packet.specs.declared.reply.ReplyBody.{ReplyBody}
use Rattle.uda_packet.specs.declared.reply.ReplyBody.TheVariants.{Basic, Abort, CommandStatus, AccessPaths, CompareController, Flush, SetUnit, Compare}
use Rattle.uda_packet.specs.declared.end.EndBody.{EndBody}
use Rattle.uda_packet.specs.declared.end.EndBody.TheVariants as body
use Rattle.uda_packet.specs.declared.guest_end.Report.{Report}
use Rattle.uda_packet.specs.declared.guest_end.UnitReport.{UnitReport}
use Rattle.uda_packet.specs.Field.{Entry, ◌holds◌, text_of, with_entries, with_number, reference_field, unit_field, code_field, status_field}
use Rattle.uda_packet.specs.GuestEnd.{written_guest_end, written_unit_available, unit_available, identity_entries, guest_entries, basic_entries, guest_reply_entries, controller_entries, status_entries, online_entries, unit_number}
use Rattle.uda_packet.specs.Reply.{reply_code}
use Rattle.uda_disk.specs.Status.{SUCCESS, ABORTED}

module _ (reference number code status : ℕ) where
  abbrev head_and : List Entry → List Entry
  head_and rest = reference_field holds reference ∷ unit_field holds number ∷ code_field holds code ∷ rest

  -- what follows the status, written one field after the other
  abbrev IsWrittenAtOnce : List Entry → Type 0
  IsWrittenAtOnce rest =
      with_entries rest (with_number status_field status (text_of (head_and [])))
      ≡ text_of (head_and (status_field holds status ∷ rest))

  of_controller : (r : Report) (succeeded : Bool) → IsWrittenAtOnce (controller_entries r succeeded)
  of_controller r true = refl
  of_controller r false = refl

  of_status : (u : Option UnitReport) → IsWrittenAtOnce (status_entries u number)
  of_status None = refl
  of_status (Some u) = refl

  of_online : (u : Option UnitReport) → IsWrittenAtOnce (online_entries u number)
  of_online None = refl
  of_online (Some u) = refl

  of_body : (r : Report) (b : EndBody) → IsWrittenAtOnce (guest_entries r number status b)
  of_body r body.Invalid = refl
  of_body r (body.Status flags) = of_status r.unit
  of_body r body.Controller = of_controller r (status == SUCCESS)
  of_body r body.Available = refl
  of_body r (body.Online flags size) = of_online r.unit
  of_body r (body.Moved which moved) = refl

  of_basic : (gone : Bool) (r : Report) (b : EndBody) → IsWrittenAtOnce (basic_entries gone r number status b)
  of_basic true r b = refl
  of_basic false r b = of_body r b

  of_reply : (r : Report) (b : ReplyBody) → IsWrittenAtOnce (guest_reply_entries r number status b)
  of_reply r (Basic b) = of_basic (status == ABORTED) r b
  of_reply r (Abort named) = refl
  of_reply r (CommandStatus named progress) = refl
  of_reply r AccessPaths = refl
  of_reply r CompareController = refl
  of_reply r Flush = refl
  of_reply r (SetUnit flags size) = of_basic (status == ABORTED) r (body.Online flags size)
  of_reply r (Compare bytes) = refl

-- the same of a whole end message, by what its head and its fields were written as
pub writes_guest_end : (r : Report) (e : Reply) (number code : ℕ) (before after : List ℕ)
    → number ≡ unit_number r.identity e.unit → code ≡ reply_code e.body
    → before ≡ with_number status_field e.status
    (text_of (reference_field holds e.reference ∷ unit_field holds number ∷ code_field holds code ∷ []))
    → after ≡ with_entries (guest_reply_entries r number e.status e.body) before
    → after ≡ written_guest_end r e
unfolding written_guest_end
writes_guest_end r e number code before after numbered named headed written =
    written ∙ ap (λ (b : List ℕ). with_entries (guest_reply_entries r number e.status e.body) b) headed
    ∙ of_reply e.reference number code e.status r e.body
    ∙ ap (λ (n : ℕ). text_of (head_and e.reference n code e.status
    (status_field holds e.status ∷ guest_reply_entries r n e.status e.body))) numbered
    ∙ ap (λ (k : ℕ). text_of (head_and e.reference (unit_number r.identity e.unit) k e.status
    (status_field holds e.status ∷ guest_reply_entries r (unit_number r.identity e.unit) e.status e.body)))
    named

-- and so is an attention message
pub writes_unit_available : (u : UnitReport) (number : ℕ) (before after : List ℕ)
    → before ≡ text_of (reference_field holds 0 ∷ unit_field holds number ∷ code_field holds unit_available
    ∷ [])
    → after ≡ with_entries (identity_entries u number) before → after ≡ written_unit_available u number
unfolding written_unit_available
writes_unit_available u number before after headed written =
    written ∙ ap (λ (b : List ℕ). with_entries (identity_entries u number) b) headed
