-- The grammar and the functions that read agree, so a text has the meaning of exactly one command, one
-- fault or one end message.
use Rattle.std.proofs.Common.{◌≡◌, ℕ, Bool, true, false, List, Option, Some, None, Result, Ok, Err, refl, sym, ◌∙◌, subst, ◌↔◌, MatchResult, MatchOption}
use Rattle.std.proofs.lemmas.Bool.{ne_eqb, eq-eqb}
use Rattle.uda_packet.specs.declared.command.Command.{Command}
use Rattle.uda_packet.specs.declared.command.Op.{Op}
use Rattle.uda_packet.specs.declared.end.End.{End}
use Rattle.uda_packet.specs.declared.end.EndBody.{EndBody}
use Rattle.uda_packet.specs.declared.bad.Bad.{Bad}
use Rattle.uda_packet.specs.declared.bad.BadKind.{BadKind}
use Rattle.uda_packet.specs.declared.bad.BadKind.TheVariants as fault
use Rattle.uda_packet.specs.declared.reply.Reply.{Reply}
use Rattle.uda_packet.specs.Field.{number_in, reference_field, unit_field, status_field, code_field}
use Rattle.uda_packet.specs.Opcode.{names_version}
use Rattle.uda_packet.specs.Reply.{reply_named, read_reply}
use Rattle.uda_packet.specs.Text.{OpText, VersionFits, FaultText, CommandText, BadText, HasUnknownOpcode, HasStrayModifier, HasWrongVersion, EndText, IsNoEnd}
use Rattle.uda_packet.specs.Reading.{op_by_version, read_op, read_command, read_end}

-- if there is a version, it is checked
version_read : (bytes : List ℕ) (o : Op) (named : Bool) → VersionFits bytes named
    → op_by_version bytes o named ≡ Ok o
version_read bytes o false t = refl
version_read bytes o true t = rw t refl

pub op_is_read : (bytes : List ℕ) (o : Op) → OpText bytes o → read_op bytes ≡ Ok o
unfolding read_op
op_is_read bytes o t = rw (t.named, eq-eqb _ _ t.allowed) (version_read bytes o (names_version o) t.version)

-- a text at fault is read as its fault, whichever it is
unknown_is_read : (bytes : List ℕ) (b : EndBody) → HasUnknownOpcode bytes b
    → read_op bytes ≡ Err (fault.Opcode, b)
unfolding read_op
unknown_is_read bytes b t = rw (t.unknown, t.body_is) refl

stray_is_read : (bytes : List ℕ) (b : EndBody) → HasStrayModifier bytes b
    → read_op bytes ≡ Err (fault.Modifiers, b)
unfolding read_op
stray_is_read bytes b t = rw (t.named, ne_eqb _ _ t.stray, t.body_is) refl

version_is_read : (bytes : List ℕ) (b : EndBody) → HasWrongVersion bytes b
    → read_op bytes ≡ Err (fault.Version, b)
unfolding read_op
version_is_read bytes b t =
    rw (t.named, eq-eqb _ _ t.allowed, t.versioned, ne_eqb _ _ t.other, t.body_is) refl

fault_is_read : (bytes : List ℕ) (k : BadKind) (b : EndBody) → FaultText bytes k b
    → read_op bytes ≡ Err (k, b)
fault_is_read bytes fault.Opcode b t = unknown_is_read bytes b t
fault_is_read bytes fault.Modifiers b t = stray_is_read bytes b t
fault_is_read bytes fault.Version b t = version_is_read bytes b t

-- a command's text is read as the command
pub command_is_read : (bytes : List ℕ) (c : Command) → CommandText bytes c → read_command bytes ≡ Ok c
unfolding read_command
command_is_read bytes c t = rw (t.reference_is, t.unit_is, op_is_read bytes c.op t.op_is) refl

-- a text at fault is read as its fault
pub bad_is_read : (bytes : List ℕ) (b : Bad) → BadText bytes b → read_command bytes ≡ Err b
unfolding read_command
bad_is_read bytes b t = rw (t.reference_is, t.unit_is, fault_is_read bytes b.kind b.body t.fault_is) refl

-- what a text was found to be is what it is read as
pub is_read : (bytes : List ℕ) (r : Result Command Bad)
    → MatchResult r (λ c. CommandText bytes c) (λ b. BadText bytes b) → read_command bytes ≡ r
is_read bytes (Ok c) t = command_is_read bytes c t
is_read bytes (Err b) t = bad_is_read bytes b t

-- so it is that command and no other
pub only_command : (bytes : List ℕ) (r : Result Command Bad)
    → MatchResult r (λ c. CommandText bytes c) (λ b. BadText bytes b)
    → (c : Command) → (r ≡ Ok c) ↔ CommandText bytes c
only_command bytes (Ok d) t c = (
  λ e. let same : d ≡ c = cc in subst (λ (x : Command). CommandText bytes x) same t,
  λ u. sym (command_is_read bytes d t) ∙ command_is_read bytes c u,
)
only_command bytes (Err b) t c =
    (λ e. absurd cc, λ u. sym (bad_is_read bytes b t) ∙ command_is_read bytes c u)

-- and it is that fault and no other
pub only_fault : (bytes : List ℕ) (r : Result Command Bad)
    → MatchResult r (λ c. CommandText bytes c) (λ b. BadText bytes b)
    → (b : Bad) → (r ≡ Err b) ↔ BadText bytes b
only_fault bytes (Ok c) t b =
    (λ e. absurd cc, λ u. sym (command_is_read bytes c t) ∙ bad_is_read bytes b u)
only_fault bytes (Err d) t b = (
  λ e. let same : d ≡ b = cc in subst (λ (x : Bad). BadText bytes x) same t,
  λ u. sym (bad_is_read bytes d t) ∙ bad_is_read bytes b u,
)

-- ---- end messages

-- an end message's text is read as the end message
pub end_is_read : (bytes : List ℕ) (e : End) → EndText bytes e → read_end bytes ≡ Some e
unfolding read_end
end_is_read bytes e t = rw (t.reference_is, t.unit_is, t.status_is, t.body_is) refl

-- a text without an end code is read as none
pub no_end_is_read : (bytes : List ℕ) → IsNoEnd bytes → read_end bytes ≡ None
unfolding read_end
no_end_is_read bytes none = rw none refl

pub end_read : (bytes : List ℕ) (r : Option End) → MatchOption r (IsNoEnd bytes) (λ e. EndText bytes e)
    → read_end bytes ≡ r
end_read bytes None t = no_end_is_read bytes t
end_read bytes (Some e) t = end_is_read bytes e t

pub only_end : (bytes : List ℕ) (r : Option End) → MatchOption r (IsNoEnd bytes) (λ e. EndText bytes e)
    → (e : End) → (r ≡ Some e) ↔ EndText bytes e
only_end bytes None t e = (λ p. absurd cc, λ u. sym (no_end_is_read bytes t) ∙ end_is_read bytes e u)
only_end bytes (Some d) t e = (
  λ p. let same : d ≡ e = cc in subst (λ (x : End). EndText bytes x) same t,
  λ u. sym (end_is_read bytes d t) ∙ end_is_read bytes e u,
)

-- ---- end messages of the compatible profile

-- the end message that a text of it is read as
pub record ReplyText (bytes : List ℕ) (r : Reply) : Type 0 where
  pub reference_is : number_in reference_field bytes ≡ r.reference
  pub unit_is : number_in unit_field bytes ≡ r.unit
  pub status_is : number_in status_field bytes ≡ r.status
  pub body_is : reply_named (number_in code_field bytes) bytes ≡ Some r.body

pub reply_is_read : (bytes : List ℕ) (r : Reply) → ReplyText bytes r → read_reply bytes ≡ Some r
unfolding read_reply
reply_is_read bytes r t = rw (t.reference_is, t.unit_is, t.status_is, t.body_is) refl

pub no_reply_is_read : (bytes : List ℕ) → reply_named (number_in code_field bytes) bytes ≡ None
    → read_reply bytes ≡ None
unfolding read_reply
no_reply_is_read bytes none = rw none refl
