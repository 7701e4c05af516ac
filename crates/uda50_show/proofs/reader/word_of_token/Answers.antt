use Rattle.std.proofs.Common.{refl, rules, arith}
use Rattle.uda50_show.proofs.Tokens.{by_six}
use Rattle.uda50_show.proofs.reader.word_of_token.Goals as goal

pub returns-then-high-lt128-clause-ok : goal.returns-then-high-lt128-clause-ok
returns-then-high-lt128-clause-ok c =
    let six = by_six c.args.token (search rules) in
    let both = c.in-Some-Some in (
      λ _. record {
        six = search rules;
        octal = six.digits.1 (both.ensures.some.0 refl, both.ensures'.some.0 refl);
        small = omega (arith, six.value, both.ensures.value, both.ensures'.value, both.ensures'.small, c.if-high-lt128.true);
      },
      λ _. refl,
    )

pub returns-else-high-lt128-clause-ok : goal.returns-else-high-lt128-clause-ok
returns-else-high-lt128-clause-ok c =
    let six = by_six c.args.token (search rules) in
    let both = c.in-Some-Some in (
      search rules,
      λ word.
          absurd (omega (arith, six.value, both.ensures.value, both.ensures'.value, c.if-high-lt128.false, word.small)),
    )
