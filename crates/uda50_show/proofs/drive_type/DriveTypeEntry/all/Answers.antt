use Rattle.std.proofs.Common.{rules, ℕ}
use Rattle.std.proofs.lemmas.List.Sorted.{IsNonDecreasingBy-from_sort_by_key}
use Rattle.uda50_show.specs.declared.drive_type.DriveTypeEntry.{DriveTypeEntry}
use Rattle.uda50_show.proofs.drive_type.DriveTypeEntry.all.Goals as goal

abbrev blocks : DriveTypeEntry → ℕ
blocks drive = drive.blocks

pub returns : goal.returns
returns c = record {
  smallest_first =
      IsNonDecreasingBy-from_sort_by_key blocks _ c.sort_unstable_by_key.ensures.sorted
      (λ a r q k. search rules);
}
