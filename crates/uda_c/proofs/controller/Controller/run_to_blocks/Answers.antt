use Rattle.std.proofs.Common.{refl, sym, ◌∙◌}
use Rattle.std.proofs.lemmas.Bool.{true≢false}
use Rattle.uda_c.proofs.controller.Controller.run_to_blocks.Goals as goal

pub returns-then-window-bus : goal.returns-then-window-bus
returns-then-window-bus c = record {
  runs = record {
    short = λ is. absurd (true≢false (sym is ∙ sym c.is_short.ensures ∙ c.if-is_short.false));
    refuses = λ _ other. absurd (other c.in-Ok.ensures.ok.1);
    runs = λ _ _. (c.in-Ok.bus, c.in-Ok.ensures.ok.0, (λ other. absurd (other c.if-window-bus.true), λ _. c.run_over.ensures.runs));
  };
}

pub returns-else-window-bus : goal.returns-else-window-bus
returns-else-window-bus c = record {
  runs = record {
    short = λ is. absurd (true≢false (sym is ∙ sym c.is_short.ensures ∙ c.if-is_short.false));
    refuses = λ _ other. absurd (other c.in-Ok.ensures.ok.1);
    runs = λ _ _. (c.in-Ok.bus, c.in-Ok.ensures.ok.0, (λ _. (refl, refl), λ same. absurd (c.if-window-bus.false same)));
  };
}
