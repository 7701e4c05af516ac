use Rattle.std.proofs.Common.{◌≡◌, ◌∷◌, [], false, subst, arith}
use Rattle.std.specs.Prelude.{◌==◌}
use Rattle.std.specs.Option.{option_to_list}
use Rattle.std.specs.Io.KnownBytes.{Consumes}
use Rattle.std.proofs.lemmas.Bool.Decides.{nat_tests}
use Rattle.uda_script_run.proofs.Streaming.{takes_last, takes_feed, takes_byte}
use Rattle.uda_script_run.proofs.source.read_next.Goals as goal

pub returns-in-None-clause-part : goal.returns-in-None-clause-part
returns-in-None-clause-part g c =
    takes_last _ _ _
    (subst (λ byte. Consumes (g.T.Read.remaining c.args.text.now) (g.T.Read.remaining c.read_byte.new.text)
    (option_to_list byte)) c.in-None.is c.in_ok-read_byte.ensures.byte)
    (c.in_ok-read_byte.ensures.end c.in-None.is)

pub returns-in-Some-eq10-clause-part : goal.returns-in-Some-eq10-clause-part
returns-in-Some-eq10-clause-part g c =
    let read = subst (λ byte. Consumes (g.T.Read.remaining c.args.text.now)
    (g.T.Read.remaining c.read_byte.new.text) (option_to_list byte)) c.in-Some-eq10.is
    c.in_ok-read_byte.ensures.byte in
    takes_feed _ _ _
    (subst (λ byte. Consumes (g.T.Read.remaining c.args.text.now) (g.T.Read.remaining c.read_byte.new.text)
    (byte ∷ [])) c.in-Some-eq10.field-0-test read)

pub returns-in-Some-clause-part : goal.returns-in-Some-clause-part
returns-in-Some-clause-part g c =
    let read = subst (λ byte. Consumes (g.T.Read.remaining c.args.text.now)
    (g.T.Read.remaining c.read_byte.new.text) (option_to_list byte)) c.in-Some.is
    c.in_ok-read_byte.ensures.byte in
    let other : (c.in-Some.byte == 10) ≡ false = grind (arith, nat_tests, c.in-Some.byte-test) in
    takes_byte _ _ _ _ c.in-Some.byte other c.keep.ensures.kept read
