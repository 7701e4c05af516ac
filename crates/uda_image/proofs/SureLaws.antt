-- The calls on stores that are sure to read or to write.
use Rattle.std.proofs.Common.{◌≡◌, Bool, true, Ok, Err, refl, ap, ap₂}
use Rattle.std.specs.Prelude.{◌&&◌}
use Rattle.std.proofs.lemmas.Bool.{and_parts}
use Rattle.uda_image.specs.Store.{StoreState, NeverFails, KeepsAttributes, ReadsBlock, WritesBlock}
use Rattle.uda_image.specs.Sure.{StaysSure, SureReads, SureWrites}
use Rattle.uda_image.proofs.SoundLaws.{stays_sound}

stays_sure : {old new : StoreState} → KeepsAttributes old new → old.faithful ≡ true → new.failures ≡ old.failures
    → StaysSure old new
stays_sure attributes faithful none_failed = record {
  sound = stays_sound attributes faithful;
  none_failed = none_failed;
  sure_to_read = ap₂ (λ (f : Bool) (n : NeverFails). f && n.reads) attributes.faithful_stays attributes.never_fails_stays;
  sure_to_write = ap₂ (λ (f : Bool) (n : NeverFails). f && n.writes) attributes.faithful_stays attributes.never_fails_stays;
}

pub sure_reads : SureReads
sure_reads old new n to (Ok done) sure attributes infallible reads =
    let both = and_parts old.faithful old.never_fails.reads sure in
    let read : ReadsBlock old n new to = reads both.0 in
    (refl, (read, stays_sure attributes both.0 (ap (λ (s : StoreState). s.failures) read.state_stays)))
sure_reads old new n to (Err error) sure attributes infallible reads =
    let no = infallible (and_parts old.faithful old.never_fails.reads sure).1 in absurd (cc)

pub sure_writes : SureWrites
sure_writes old new n from (Ok done) sure attributes infallible writes =
    let both = and_parts old.faithful old.never_fails.writes sure in
    let wrote : WritesBlock old n new from = writes both.0 in
    (refl, (wrote, stays_sure attributes both.0 (ap (λ (s : StoreState). s.failures) wrote.written)))
sure_writes old new n from (Err error) sure attributes infallible writes =
    let no = infallible (and_parts old.faithful old.never_fails.writes sure).1 in absurd (cc)
