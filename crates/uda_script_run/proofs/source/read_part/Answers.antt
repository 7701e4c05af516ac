use Rattle.std.proofs.Common.{◌+◌, length, take, sym, ap, subst, ◌∙◌, append-nil, arith}
use Rattle.std.specs.Io.KnownBytes.{Consumes}
use Rattle.std.proofs.lemmas.List.{take_all}
use Rattle.memchr.specs.Find.{IsFirstByte, is_byte}
use Rattle.uda_script_run.proofs.ReadAhead.{one_line, whole_line, with_line_feed}
use Rattle.uda_script_run.proofs.source.read_part.Goals as goal

pub returns-in-Some-clause-part : goal.returns-in-Some-clause-part
returns-in-Some-clause-part g c =
    let bytes = c.bytes_ahead-bytes.result.now in
    let end = c.in-Some.end in
    let first = subst (IsFirstByte (is_byte 10) bytes) c.in-Some.is c.memchr.ensures in
    let taken =
    ap (take (end + 1)) (sym c.bytes_ahead-bytes.ensures.bytes) ∙ with_line_feed bytes end first.0.high first.1 in
    record {
      part = take end bytes;
      one = one_line bytes end (omega (arith, first.0.high)) first.0.before;
      is_kept = λ _. c.keep.ensures.kept;
      consumed = subst (Consumes _ _) taken c.skip.ensures.skipped;
      at_end = λ e. absurd (cc);
    }

pub returns-in-None-clause-part : goal.returns-in-None-clause-part
returns-in-None-clause-part g c =
    let bytes = c.bytes_ahead-bytes.result.now in
    let none = subst (IsFirstByte (is_byte 10) bytes) c.in-None.is c.memchr.ensures in
    let taken =
    ap (take (length bytes)) (sym c.bytes_ahead-bytes.ensures.bytes)
    ∙ take_all (length bytes) bytes (omega arith) ∙ sym (append-nil bytes) in
    record {
      part = bytes;
      one = whole_line bytes none;
      is_kept = λ _. c.keep-in-None.ensures.kept;
      consumed = subst (Consumes _ _) taken c.skip-in-None.ensures.skipped;
      at_end = λ e. absurd (cc);
    }
