-- The laws of a word that is written to SA over what a bus shows.
use Rattle.std.proofs.Common.{◌≡◌, ℕ, Bool, true, false, List, [], ◌∷◌, length, refl, sym, ap, ◌∙◌, subst}
use Rattle.std.specs.Prelude.{All, if◌then◌else◌}
use Rattle.uda_mem.specs.declared.range.ByteRange.{ByteRange}
use Rattle.uda_mem.specs.Put.{part}
use Rattle.uda_mem.specs.Ranges.{EMPTY_RANGE, SameIn, carried}
use Rattle.uda_port.specs.declared.phase.Phase.{Phase}
use Rattle.uda_port.specs.declared.phase.Phase.TheVariants.{Step3}
use Rattle.uda_port.specs.Port.{PortState}
use Rattle.uda_port.specs.Startup.{area_of, has_area, refuses_third}
use Rattle.uda_port.specs.StartupUse.{area_range, range_zeroed, range_written, WordIsLocal}
use Rattle.uda_bus.specs.declared.map.BusMap.{BusMap}
use Rattle.uda_bus.specs.Bytes.{stored}
use Rattle.uda_bus.specs.Turns.{bus_memory, TellsMissing, WritesSaThroughMap}
use Rattle.uda_bus.proofs.ShownLaws.{length-shown}
use Rattle.uda_bus.proofs.CarriedLaws.{carried_agrees, carried_same}
use Rattle.uda_bus.proofs.TurnLaws.{stored_same}

-- the range that a word zeroes, in two memories of one length
zeroed_of_length : (phase : Phase) (port : PortState) (memory other : List ℕ) (word : ℕ)
    → length other ≡ length memory → range_zeroed phase port other word ≡ range_zeroed phase port memory word
zeroed_of_length (Step3 first second) port memory other word long =
    let area = area_of port.profile first second word in
    ap (λ (n : ℕ). if refuses_third port.profile word then EMPTY_RANGE
    else if has_area area n then area_range area else EMPTY_RANGE) long
zeroed_of_length _ port memory other word long = refl

written_of_length : (missing : Bool) (port : PortState) (memory other : List ℕ) (word : ℕ)
    → length other ≡ length memory → range_written missing (port, other) word
    ≡ range_written missing (port, memory) word
written_of_length true port memory other word long = refl
written_of_length false port memory other word long =
    zeroed_of_length port.phase port memory other word long

module _ (port : PortState) (map : BusMap) (memory window : List ℕ) (word : ℕ) where
  pub word_through_map : (missing : Bool) (area written : ByteRange) (new : List ℕ) (after : PortState × List ℕ)
      → area ≡ range_zeroed port.phase port window word
      → TellsMissing map memory area missing
      → written ≡ range_written missing (port, window) word
      → WordIsLocal missing (port, window) word written (after.0, new)
      → length new ≡ length window
      → after.1 ≡ stored map memory written.at (part new written.at written.bytes)
      → WritesSaThroughMap map (length window) (port, memory) word after
  word_through_map missing area written new after is_area tells is_written local long stores =
      let bus = bus_memory map (length window) memory in
      let size : length bus ≡ length window = length-shown map memory 0 (length window) in
      let ranges : List ByteRange = written ∷ [] in
      let bus_after = carried ranges new bus in
      let shared : All (SameIn new bus_after) ranges = carried_agrees ranges new bus (size ∙ sym long) in
      record {
        missing = missing;
        written = written;
        bus_after = bus_after;
        is_missing =
            subst (λ (r : ByteRange). TellsMissing map memory r missing)
            (is_area ∙ sym (zeroed_of_length port.phase port window bus word size)) tells;
        is_written = is_written ∙ sym (written_of_length missing port window bus word size);
        effect = local.elsewhere bus size;
        only = carried_same ranges new bus_after bus shared;
        memory_is = stores ∙ stored_same map ranges new bus_after memory shared;
      }
