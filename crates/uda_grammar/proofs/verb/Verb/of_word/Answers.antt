use Rattle.std.proofs.Common.{rules, ◌≡◌, refl, arith, codes}
use Rattle.std.proofs.lemmas.Slice.Eq.{text_from_reads}
use Rattle.uda_grammar.proofs.verb.Verb.of_word.Goals as goal

pub returns-in-online : goal.returns-in-online
returns-in-online c =
    let e : c.args.word.now ≡ codes "online" = text_from_reads _ _ (omega arith) (search rules) in
    rw e (record { verb = refl })

pub returns-in-status : goal.returns-in-status
returns-in-status c =
    let e : c.args.word.now ≡ codes "status" = text_from_reads _ _ (omega arith) (search rules) in
    rw e (record { verb = refl })

pub returns-in-access : goal.returns-in-access
returns-in-access c =
    let e : c.args.word.now ≡ codes "access" = text_from_reads _ _ (omega arith) (search rules) in
    rw e (record { verb = refl })

pub returns-in-available : goal.returns-in-available
returns-in-available c =
    let e : c.args.word.now ≡ codes "available" = text_from_reads _ _ (omega arith) (search rules) in
    rw e (record { verb = refl })

pub returns-in-accessb : goal.returns-in-accessb
returns-in-accessb c =
    let e : c.args.word.now ≡ codes "accessb" = text_from_reads _ _ (omega arith) (search rules) in
    rw e (record { verb = refl })

pub returns-in-eraseb : goal.returns-in-eraseb
returns-in-eraseb c =
    let e : c.args.word.now ≡ codes "eraseb" = text_from_reads _ _ (omega arith) (search rules) in
    rw e (record { verb = refl })

pub returns-in-writeb : goal.returns-in-writeb
returns-in-writeb c =
    let e : c.args.word.now ≡ codes "writeb" = text_from_reads _ _ (omega arith) (search rules) in
    rw e (record { verb = refl })
