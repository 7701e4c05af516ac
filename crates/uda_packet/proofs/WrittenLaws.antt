-- What is written is a text of the grammar, of what it was written from.
use Rattle.std.proofs.Common.{◌≡◌, ℕ, ◌<◌, ◌^◌, Bool, true, false, Some, None, List, [], ◌∷◌, ◌++◌, length, refl, ap, ◌∙◌, ◌==◌}
use Rattle.byteorder.specs.Endian.{little_from, little_bytes}
use Rattle.byteorder.specs.Numbers.{little_number-reads_back}
use Rattle.uda_packet.specs.declared.command.Command.{Command}
use Rattle.uda_packet.specs.declared.command.Op.{Op}
use Rattle.uda_packet.specs.declared.command.Op.TheVariants as op
use Rattle.uda_packet.specs.declared.end.End.{End}
use Rattle.uda_packet.specs.declared.end.EndBody.{EndBody}
use Rattle.uda_packet.specs.declared.end.EndBody.TheVariants as body
use Rattle.uda_packet.specs.declared.end.Kind.TheVariants as kind
use Rattle.uda_packet.specs.Field.{Entry, ◌holds◌, text_of, with_entries, with_number, number_in, reference_field, unit_field, code_field, status_field, unit_flags_field, unit_size_field}
use Rattle.uda_packet.specs.Opcode.{opcode_of, end_code, parameters, names_version}
use Rattle.uda_packet.specs.Text.{CommandText, NamesOp, AllowsModifiers, VersionFits, EndText, BodyText}
use Rattle.uda_packet.specs.Commands.{BodyFits, answer_entries, unit_entries, strict_controller_entries, tells_status, tells_online}
use Rattle.uda_packet.specs.Written.{written_command, written_end}
use Rattle.uda_packet.specs.Range.{EntriesFit}
use Rattle.uda_packet.specs.declared.reply.Reply.{Reply}
use Rattle.uda_packet.specs.declared.reply.ReplyBody.{ReplyBody}
use Rattle.uda_packet.specs.declared.reply.ReplyBody.TheVariants.{Basic, Abort, CommandStatus, AccessPaths, CompareController, Flush, SetUnit, Compare}
use Rattle.uda_packet.specs.Reply.{basic_reply, reply_code, reply_entries, reply_named, ReplyFits, read_reply, written_reply}

-- a command and an end message whose numbers are in the ranges of their types
pub record CommandFits (c : Command) : Type 0 where
  pub reference_fits : c.reference < 2 ^ 32
  pub unit_fits : c.unit < 2 ^ 16
  pub op_fits : EntriesFit (parameters c.op)

pub record EndFits (e : End) : Type 0 where
  pub reference_fits : e.reference < 2 ^ 32
  pub unit_fits : e.unit < 2 ^ 16
  pub status_fits : e.status < 2 ^ 16
  pub body_fits : BodyFits e.body

-- a number of two or four bytes is read back
word_back : (n : ℕ) → n < 2 ^ 16 → little_from 0 2 (little_bytes 2 n) ≡ n
word_back n h = little_number-reads_back 2 n [] h

long_back : (n : ℕ) → n < 2 ^ 32 → little_from 0 4 (little_bytes 4 n) ≡ n
long_back n h = little_number-reads_back 4 n [] h

-- one, two or three numbers that replace equal ones
one : {A : Type 0} (f : ℕ → A) {a b : ℕ} → a ≡ b → f a ≡ f b
one f e = ap f e

two : {A : Type 0} (f : ℕ → ℕ → A) {a b c d : ℕ} → a ≡ b → c ≡ d → f a c ≡ f b d
two f e h = rw (e, h) refl

three : {A : Type 0} (f : ℕ → ℕ → ℕ → A) {a b c d x y : ℕ} → a ≡ b → c ≡ d → x ≡ y → f a c x ≡ f b d y
three f e h k = rw (e, h, k) refl

-- ---- commands

-- the entries of a text before its parameters
abbrev head_entries : ℕ → ℕ → ℕ → List Entry → List Entry
head_entries reference unit code rest =
    reference_field holds reference ∷ unit_field holds unit ∷ code_field holds code ∷ rest

abbrev head_text : ℕ → ℕ → ℕ → List ℕ
head_text reference unit code = text_of (head_entries reference unit code [])

module _ (reference unit : ℕ) where
  -- what is proved of a command's row, of which each command has one proof
  record Lawful (o : Op) (bytes : List ℕ) : Type 0 where
    -- written entry by entry after the head, its text is the one that is written at once
    entries : with_entries (parameters o) (head_text reference unit (opcode_of o)) ≡ bytes
    long : length bytes ≡ 48
    allowed : AllowsModifiers bytes o
    version : VersionFits bytes (names_version o)
    named : EntriesFit (parameters o) → NamesOp bytes o

  lawful : (o : Op) → Lawful o (written_command (record { reference = reference; unit = unit; op = o }))
  unfolding written_command
  lawful op.Status =
      record { entries = refl; long = refl; allowed = refl; version = tt; named = λ h. refl }
  lawful op.Controller =
      record { entries = refl; long = refl; allowed = refl; version = refl; named = λ h. refl }
  lawful op.Available =
      record { entries = refl; long = refl; allowed = refl; version = tt; named = λ h. refl }
  lawful (op.Online None) =
      record { entries = refl; long = refl; allowed = refl; version = tt; named = λ h. refl }
  lawful (op.Online (Some true)) =
      record { entries = refl; long = refl; allowed = refl; version = tt; named = λ h. refl }
  lawful (op.Online (Some false)) =
      record { entries = refl; long = refl; allowed = refl; version = tt; named = λ h. refl }
  lawful (op.Access bytes lbn) = record {
    entries = refl;
    long = refl;
    allowed = refl;
    version = tt;
    named = λ h. two (λ x y. Some (op.Access x y)) (long_back bytes h.0) (long_back lbn h.1.0);
  }
  lawful (op.Erase bytes lbn) = record {
    entries = refl;
    long = refl;
    allowed = refl;
    version = tt;
    named = λ h. two (λ x y. Some (op.Erase x y)) (long_back bytes h.0) (long_back lbn h.1.0);
  }
  lawful (op.Read bytes address lbn) = record {
    entries = refl;
    long = refl;
    allowed = refl;
    version = tt;
    named = λ h. three (λ x y z. Some (op.Read x y z))
        (long_back bytes h.0) (long_back address h.1.0) (long_back lbn h.1.1.0);
  }
  lawful (op.Write bytes address lbn) = record {
    entries = refl;
    long = refl;
    allowed = refl;
    version = tt;
    named = λ h. three (λ x y z. Some (op.Write x y z))
        (long_back bytes h.0) (long_back address h.1.0) (long_back lbn h.1.1.0);
  }

-- a text with its head read back
pub record HeadBack (bytes : List ℕ) (reference unit : ℕ) : Type 0 where
  pub reference_is : number_in reference_field bytes ≡ reference
  pub unit_is : number_in unit_field bytes ≡ unit

head_back : (c : Command) → CommandFits c → HeadBack (written_command c) c.reference c.unit
unfolding written_command
head_back c h = record {
  reference_is = long_back c.reference h.reference_fits;
  unit_is = word_back c.unit h.unit_fits;
}

-- the text that a command is written as is a text of it
pub written_command_text : (c : Command) → CommandFits c → CommandText (written_command c) c
written_command_text c h =
    let head = head_back c h in
    let row = lawful c.reference c.unit c.op in
    record {
      reference_is = head.reference_is;
      unit_is = head.unit_is;
      op_is = record { named = row.named h.op_fits; allowed = row.allowed; version = row.version };
    }

-- it has 48 bytes
pub length-written_command : (c : Command) → length (written_command c) ≡ 48
length-written_command c = (lawful c.reference c.unit c.op).long

-- the parameters written into a head make the text
pub writes_command : (c : Command) (code : ℕ) (before after : List ℕ) → code ≡ opcode_of c.op
    → before ≡ head_text c.reference c.unit code
    → after ≡ with_entries (parameters c.op) before → after ≡ written_command c
writes_command c code before after named headed written =
    let head : before ≡ head_text c.reference c.unit (opcode_of c.op) =
    headed ∙ ap (λ (k : ℕ). head_text c.reference c.unit k) named in
    written ∙ ap (λ (b : List ℕ). with_entries (parameters c.op) b) head
    ∙ (lawful c.reference c.unit c.op).entries

-- ---- end messages

-- a body of the strict profile is read as it is in the compatible profile
basic_is_read : (bytes : List ℕ) (b : EndBody) → BodyText bytes b
    → reply_named (number_in code_field bytes) bytes ≡ Some (Basic b)
basic_is_read bytes b t = rw t refl

module _ (reference unit status : ℕ) where
  -- a text before its answer is written
  abbrev text_begin : ℕ → List ℕ
  text_begin code = with_number status_field status (head_text reference unit code)

  abbrev whole_text : ℕ → List Entry → List ℕ
  whole_text code rest = text_of (head_entries reference unit code (status_field holds status ∷ rest))

  -- the facts proved of an end message's row, with one proof for each body
  record LawfulEnd (b : EndBody) (rest : List Entry) : Type 0 where
    entries : with_entries rest (text_begin (end_code b)) ≡ whole_text (end_code b) rest
    long : length (whole_text (end_code b) rest) ≡ 48
    text : BodyFits b → BodyText (whole_text (end_code b) rest) b

  status_lawful : (flags : ℕ) (told : Bool)
      → LawfulEnd (body.Status flags) (unit_flags_field holds flags ∷ unit_entries told unit)
  status_lawful flags true =
      record { entries = refl; long = refl; text = λ h. one (λ x. Some (body.Status x)) (word_back flags h) }
  status_lawful flags false =
      record { entries = refl; long = refl; text = λ h. one (λ x. Some (body.Status x)) (word_back flags h) }

  controller_lawful : (told : Bool) → LawfulEnd body.Controller (strict_controller_entries told)
  controller_lawful true = record { entries = refl; long = refl; text = λ h. refl }
  controller_lawful false = record { entries = refl; long = refl; text = λ h. refl }

  online_lawful : (flags size : ℕ) (told : Bool) → LawfulEnd (body.Online flags size)
      (unit_flags_field holds flags ∷ (unit_entries told unit ++ unit_size_field holds size ∷ []))
  online_lawful flags size true = record {
    entries = refl;
    long = refl;
    text = λ h. two (λ x y. Some (body.Online x y)) (word_back flags h.0) (long_back size h.1);
  }
  online_lawful flags size false = record {
    entries = refl;
    long = refl;
    text = λ h. two (λ x y. Some (body.Online x y)) (word_back flags h.0) (long_back size h.1);
  }

  end_lawful : (b : EndBody) → LawfulEnd b (answer_entries unit status b)
  end_lawful body.Invalid = record { entries = refl; long = refl; text = λ h. refl }
  end_lawful (body.Status flags) = status_lawful flags (tells_status status)
  end_lawful body.Controller = controller_lawful (status == 0)
  end_lawful body.Available = record { entries = refl; long = refl; text = λ h. refl }
  end_lawful (body.Online flags size) = online_lawful flags size (tells_online status)
  end_lawful (body.Moved kind.Access moved) = record {
    entries = refl;
    long = refl;
    text = λ h. one (λ x. Some (body.Moved kind.Access x)) (long_back moved h);
  }
  end_lawful (body.Moved kind.Erase moved) = record {
    entries = refl;
    long = refl;
    text = λ h. one (λ x. Some (body.Moved kind.Erase x)) (long_back moved h);
  }
  end_lawful (body.Moved kind.Read moved) = record {
    entries = refl;
    long = refl;
    text = λ h. one (λ x. Some (body.Moved kind.Read x)) (long_back moved h);
  }
  end_lawful (body.Moved kind.Write moved) = record {
    entries = refl;
    long = refl;
    text = λ h. one (λ x. Some (body.Moved kind.Write x)) (long_back moved h);
  }

written_lawful : (e : End)
    → LawfulEnd e.reference e.unit e.status e.body (answer_entries e.unit e.status e.body)
written_lawful e = end_lawful e.reference e.unit e.status e.body

-- the answer written after a head and a status makes the text
pub writes_end : (e : End) (code : ℕ) (head before after : List ℕ) → code ≡ end_code e.body
    → head ≡ head_text e.reference e.unit code
    → before ≡ with_number status_field e.status head
    → after ≡ with_entries (answer_entries e.unit e.status e.body) before → after ≡ written_end e
unfolding written_end
writes_end e code head before after named headed begins written =
    let begun : before ≡ text_begin e.reference e.unit e.status (end_code e.body) =
    begins ∙ ap (λ (t : List ℕ). with_number status_field e.status t)
    (headed ∙ ap (λ (k : ℕ). head_text e.reference e.unit k) named) in
    written ∙ ap (λ (b : List ℕ). with_entries (answer_entries e.unit e.status e.body) b) begun
    ∙ (written_lawful e).entries

end_head_back : (e : End) → EndFits e → HeadBack (written_end e) e.reference e.unit
unfolding written_end
end_head_back e h = record {
  reference_is = long_back e.reference h.reference_fits;
  unit_is = word_back e.unit h.unit_fits;
}

-- the text that an end message is written as is a text of it
pub written_end_text : (e : End) → EndFits e → EndText (written_end e) e
unfolding written_end
written_end_text e h =
    let head = end_head_back e h in
    record {
      reference_is = head.reference_is;
      unit_is = head.unit_is;
      status_is = word_back e.status h.status_fits;
      body_is = (written_lawful e).text h.body_fits;
    }

pub length-written_end : (e : End) → length (written_end e) ≡ 48
unfolding written_end
length-written_end e = (written_lawful e).long

-- ---- end messages of the compatible profile

pub record ReplyIsFit (r : Reply) : Type 0 where
  pub reference_fits : r.reference < 2 ^ 32
  pub unit_fits : r.unit < 2 ^ 16
  pub status_fits : r.status < 2 ^ 16
  pub body_fits : ReplyFits r.body

module _ (reference unit status : ℕ) where
  -- the facts proved of the row of such an end message
  record LawfulReply (b : ReplyBody) (rest : List Entry) : Type 0 where
    entries : with_entries rest (text_begin reference unit status (reply_code b))
        ≡ whole_text reference unit status (reply_code b) rest
    long : length (whole_text reference unit status (reply_code b) rest) ≡ 48
    text : ReplyFits b → let bytes = whole_text reference unit status (reply_code b) rest in
        reply_named (number_in code_field bytes) bytes ≡ Some b

  reply_lawful : (b : ReplyBody) → LawfulReply b (reply_entries unit status b)
  reply_lawful (Basic b) =
      let row = end_lawful reference unit status b in
      record {
        entries = row.entries;
        long = row.long;
        text = λ h.
            basic_is_read
            (whole_text reference unit status (end_code b) (answer_entries unit status b)) b (row.text h);
      }
  reply_lawful (Abort named) =
      record { entries = refl; long = refl; text = λ h. one (λ x. Some (Abort x)) (long_back named h) }
  reply_lawful (CommandStatus named progress) = record {
    entries = refl;
    long = refl;
    text = λ h. two (λ x y. Some (CommandStatus x y)) (long_back named h.0) (long_back progress h.1);
  }
  reply_lawful AccessPaths = record { entries = refl; long = refl; text = λ h. refl }
  reply_lawful CompareController = record { entries = refl; long = refl; text = λ h. refl }
  reply_lawful Flush = record { entries = refl; long = refl; text = λ h. refl }
  reply_lawful (SetUnit flags size) = record {
    entries = refl;
    long = refl;
    text = λ h. two (λ x y. Some (SetUnit x y)) (word_back flags h.0) (long_back size h.1);
  }
  reply_lawful (Compare bytes) =
      record { entries = refl; long = refl; text = λ h. one (λ x. Some (Compare x)) (long_back bytes h) }

reply_is_lawful : (r : Reply)
    → LawfulReply r.reference r.unit r.status r.body (reply_entries r.unit r.status r.body)
reply_is_lawful r = reply_lawful r.reference r.unit r.status r.body

-- the answer written after a head and a status makes the text
pub writes_reply : (r : Reply) (code : ℕ) (head before after : List ℕ) → code ≡ reply_code r.body
    → head ≡ head_text r.reference r.unit code
    → before ≡ with_number status_field r.status head
    → after ≡ with_entries (reply_entries r.unit r.status r.body) before → after ≡ written_reply r
unfolding written_reply
writes_reply r code head before after named headed begins written =
    let begun : before ≡ text_begin r.reference r.unit r.status (reply_code r.body) =
    begins ∙ ap (λ (t : List ℕ). with_number status_field r.status t)
    (headed ∙ ap (λ (k : ℕ). head_text r.reference r.unit k) named) in
    written ∙ ap (λ (b : List ℕ). with_entries (reply_entries r.unit r.status r.body) b) begun
    ∙ (reply_is_lawful r).entries

reply_head_back : (r : Reply) → ReplyIsFit r → HeadBack (written_reply r) r.reference r.unit
unfolding written_reply
reply_head_back r h = record {
  reference_is = long_back r.reference h.reference_fits;
  unit_is = word_back r.unit h.unit_fits;
}

-- it is read as the end message that it was written from
pub written_reply_back : (r : Reply) → ReplyIsFit r → read_reply (written_reply r) ≡ Some r
unfolding written_reply read_reply
written_reply_back r h =
    let head = reply_head_back r h in
    let status : number_in status_field (written_reply r) ≡ r.status = word_back r.status h.status_fits in
    rw (head.reference_is, head.unit_is, status, (reply_is_lawful r).text h.body_fits) refl

pub length-written_reply : (r : Reply) → length (written_reply r) ≡ 48
unfolding written_reply
length-written_reply r = (reply_is_lawful r).long

-- the text of an end message of the strict profile is the same
pub written_basic : (e : End) → written_reply (basic_reply e) ≡ written_end e
unfolding written_reply written_end
written_basic e = refl
