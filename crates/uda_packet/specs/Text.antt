-- The meaning of a text: a grammar over its fields. Any bytes are either the text of exactly one command,
-- or invalid for exactly one reason.
use Rattle.std.specs.Prelude.{◌≡◌, ◌≢◌, ℕ, List, Bool, true, false, Some, None}
use Rattle.std.specs.Int.RustNames.{bit_and}
use Rattle.uda_packet.specs.declared.command.Command.{Command}
use Rattle.uda_packet.specs.declared.command.Op.{Op}
use Rattle.uda_packet.specs.declared.end.End.{End}
use Rattle.uda_packet.specs.declared.end.EndBody.{EndBody}
use Rattle.uda_packet.specs.declared.end.EndBody.TheVariants as body
use Rattle.uda_packet.specs.declared.bad.Bad.{Bad}
use Rattle.uda_packet.specs.declared.bad.BadKind.{BadKind}
use Rattle.uda_packet.specs.declared.bad.BadKind.TheVariants as fault
use Rattle.uda_packet.specs.Field.{number_in, reference_field, unit_field, code_field, modifiers_field}
use Rattle.uda_packet.specs.Field.{status_field, version_field}
use Rattle.uda_packet.specs.Opcode.{blank_body, allowed_modifiers, names_version, op_named, body_named}

-- the text's opcode and fields are those of the operation
abbrev pub NamesOp : List ℕ → Op → Type 0
NamesOp bytes o = op_named (number_in code_field bytes) bytes ≡ Some o

-- the text's modifiers are among those of the operation
abbrev pub AllowsModifiers : List ℕ → Op → Type 0
AllowsModifiers bytes o =
    bit_and (number_in modifiers_field bytes) (allowed_modifiers o) ≡ number_in modifiers_field bytes

abbrev pub VersionFits : List ℕ → Bool → Type 0
VersionFits bytes true = number_in version_field bytes ≡ 0
VersionFits bytes false = Unit {0}

-- the text has this operation
pub record OpText (bytes : List ℕ) (o : Op) : Type 0 where
  pub named : NamesOp bytes o
  pub allowed : AllowsModifiers bytes o
  pub version : VersionFits bytes (names_version o)

-- the bytes are the text of this command
pub record CommandText (bytes : List ℕ) (c : Command) : Type 0 where
  pub reference_is : number_in reference_field bytes ≡ c.reference
  pub unit_is : number_in unit_field bytes ≡ c.unit
  pub op_is : OpText bytes c.op

-- ---- invalid commands

-- no command has this opcode
pub record HasUnknownOpcode (bytes : List ℕ) (b : EndBody) : Type 0 where
  pub unknown : op_named (number_in code_field bytes) bytes ≡ None
  pub body_is : b ≡ body.Invalid

-- the opcode is a command's, and some modifier bit is not one of that command
pub record HasStrayModifier (bytes : List ℕ) (b : EndBody) : Type 0 where
  pub asked : Op
  pub named : NamesOp bytes asked
  pub stray : bit_and (number_in modifiers_field bytes) (allowed_modifiers asked)
      ≢ number_in modifiers_field bytes
  pub body_is : b ≡ blank_body asked

-- the command is for another version of MSCP
pub record HasWrongVersion (bytes : List ℕ) (b : EndBody) : Type 0 where
  pub asked : Op
  pub named : NamesOp bytes asked
  pub allowed : AllowsModifiers bytes asked
  pub versioned : names_version asked ≡ true
  pub other : number_in version_field bytes ≢ 0
  pub body_is : b ≡ blank_body asked

abbrev pub FaultText : List ℕ → BadKind → EndBody → Type 0
FaultText bytes fault.Opcode b = HasUnknownOpcode bytes b
FaultText bytes fault.Modifiers b = HasStrayModifier bytes b
FaultText bytes fault.Version b = HasWrongVersion bytes b

-- the bytes are not the text of a command, for this reason
pub record BadText (bytes : List ℕ) (b : Bad) : Type 0 where
  pub reference_is : number_in reference_field bytes ≡ b.reference
  pub unit_is : number_in unit_field bytes ≡ b.unit
  pub fault_is : FaultText bytes b.kind b.body

-- ---- end messages

-- the text has this body
abbrev pub BodyText : List ℕ → EndBody → Type 0
BodyText bytes b = body_named (number_in code_field bytes) bytes ≡ Some b

-- the bytes are the text of this end message
pub record EndText (bytes : List ℕ) (e : End) : Type 0 where
  pub reference_is : number_in reference_field bytes ≡ e.reference
  pub unit_is : number_in unit_field bytes ≡ e.unit
  pub status_is : number_in status_field bytes ≡ e.status
  pub body_is : BodyText bytes e.body

-- byte 8 is no end code
abbrev pub IsNoEnd : List ℕ → Type 0
IsNoEnd bytes = body_named (number_in code_field bytes) bytes ≡ None
