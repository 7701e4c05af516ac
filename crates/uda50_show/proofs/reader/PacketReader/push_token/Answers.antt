use Rattle.std.proofs.Common.{ℕ, List, [], ◌∷◌, ◌++◌, get_or, ap, sym, subst, rules, ◌∙◌}
use Rattle.std.specs.Str.Parse.{digits_value}
use Rattle.uda50_show.specs.Tokens.{IsWordToken, token_bytes}
use Rattle.uda50_show.proofs.Tokens.{six, word_bytes, both_put, made_of}
use Rattle.uda50_show.proofs.reader.PacketReader.push_token.Goals as goal

pub returns-then-self-lt46-clause-token : goal.returns-then-self-lt46-clause-token
returns-then-self-lt46-clause-token c = λ _.
    let digits = six c.as_bytes.result.now (search rules) in
    let word : IsWordToken c.args.token.now =
    subst IsWordToken (digits ∙ c.as_bytes.ensures.value) (c.word_of_token.ensures.ok.0 (search rules)) in
    search (rules, word)

pub returns-else-self-lt46-clause-token : goal.returns-else-self-lt46-clause-token
returns-else-self-lt46-clause-token c = λ _.
    let digits = six c.as_bytes.result.now (search rules) in
    let word : IsWordToken c.args.token.now =
    subst IsWordToken (digits ∙ c.as_bytes.ensures.value) (c.word_of_token.ensures.ok.0 (search rules)) in
    search (rules, word)

pub returns-then-self-lt46-clause-bytes : goal.returns-then-self-lt46-clause-bytes
returns-then-self-lt46-clause-bytes c =
    let token = c.args.token.now in
    let digits = six c.as_bytes.result.now (search rules) ∙ c.as_bytes.ensures.value in
    let word = c.in_ok-word_of_token-in-len6.ensures.value ∙ ap (digits_value 8) digits in
    both_put c.args.self.now _ _ _ (token_bytes token) _ _ c.to_le_bytes.ensures
    (word_bytes token c.in_ok-word_of_token-in-len6.field-0 (search rules) word)
    c.put-then-self-lt46.ensures.more c.put-then-self-lt46-2.ensures.more

pub returns-else-self-lt46-clause-bytes : goal.returns-else-self-lt46-clause-bytes
returns-else-self-lt46-clause-bytes c =
    let token = c.args.token.now in
    let digits = six c.as_bytes.result.now (search rules) ∙ c.as_bytes.ensures.value in
    let word = c.in_ok-word_of_token-in-len6.ensures.value ∙ ap (digits_value 8) digits in
    let last = c.push_last_word.ensures in
    made_of c.push_last_word.result _ _ last.some last.packet
    ∙ ap (λ (xs : List ℕ). c.args.self.now ++ get_or xs 0 0 ∷ get_or xs 1 0 ∷ []) c.to_le_bytes.ensures
    ∙ ap (λ (xs : List ℕ). c.args.self.now ++ xs)
    (sym (word_bytes token c.in_ok-word_of_token-in-len6.field-0 (search rules) word))
