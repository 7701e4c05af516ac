-- The bytes that a turn writes to blocks, as C gets them.
use Rattle.std.proofs.Common.{◌≡◌, ℕ, ◌*◌, List, length, refl, sym, ap, subst, ◌∙◌}
use Rattle.uda_mem.specs.Put.{part}
use Rattle.uda_port.specs.BlockUse.{block_bytes_of}
use Rattle.uda_port.specs.declared.memory_use.Missing.{Missing}
use Rattle.uda_c.specs.declared.call_status.CallStatus.TheVariants.{Done, BadLength}
use Rattle.uda_c.specs.declared.turn_use.TurnUse.{TurnUse}
use Rattle.uda_c.specs.ControllerState.{ControllerState}
use Rattle.uda_c.specs.Steps.{CopiesWritten, HasPart}
use Rattle.uda_c.specs.TurnUse.{missing_of, IsPlaceOf}

module _ (c : ControllerState) (memory : List ℕ) (turn : TurnUse) (skip place : ℕ) (missing : Missing)
    (is : missing ≡ missing_of turn.missing) (asks : IsPlaceOf c turn place) (to new : List ℕ) where
  abbrev bytes : Missing → List ℕ
  bytes m = block_bytes_of m c.port memory place

  pub copied : HasPart (bytes missing) skip (length to) → new ≡ part (bytes missing) (512 * skip) (length to)
      → CopiesWritten c memory (turn, skip) Done (to, new)
  copied fits gets = record {
    place = place;
    place_is = asks;
    fits = (λ _. subst (λ (m : Missing). HasPart (bytes m) skip (length to)) is fits, λ _. refl);
    done = λ _. gets ∙ ap (λ (m : Missing). part (bytes m) (512 * skip) (length to)) is;
    refused = λ other. absurd (other refl);
  }

  pub refused : (HasPart (bytes missing) skip (length to) → ⊥) → new ≡ to
      → CopiesWritten c memory (turn, skip) BadLength (to, new)
  refused short same = record {
    place = place;
    place_is = asks;
    fits = (
      λ e. absurd (let no : BadLength ≡ Done = e in cc),
      λ has. absurd (short (subst (λ (m : Missing). HasPart (bytes m) skip (length to)) (sym is) has)),
    );
    done = λ e. absurd (let no : BadLength ≡ Done = e in cc);
    refused = λ _. (refl, same);
  }
