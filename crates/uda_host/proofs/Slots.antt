-- Writes to one slot, and the rest of the rings.
use Rattle.std.proofs.Common.{◌≡◌, ◌≢◌, ℕ, suc, ◌^◌, ◌+◌, ◌-◌, ◌%◌, ◌<◌, ◌≤◌, inl, inr, List, [], ◌∷◌, ◌++◌, length, get_or, sym, ap, ◌∙◌, refl, arith, subst}
use Rattle.std.proofs.lemmas.Bool.{cases_lt, cases_eq}
use Rattle.std.proofs.lemmas.List.{get_or_append_left, get_or_push, length_push}
use Rattle.uda_mem.specs.Put.{put, Overlap}
use Rattle.uda_mem.specs.Words.{word_bytes}
use Rattle.uda_mem.proofs.PutLaws.{length-put, part-put_apart, part-put_at}
use Rattle.uda_mem.proofs.WordLaws.{length-word_bytes, word_at-put_apart, word_at-put_at}
use Rattle.uda_packet.specs.declared.command.Command.{Command}
use Rattle.uda_packet.specs.Written.{written_command}
use Rattle.uda_packet.proofs.WrittenLaws.{length-written_command}
use Rattle.uda_exec.proofs.Changes.{changes_by_put, changes_again, changes_nothing}
use Rattle.uda_host.specs.Layout.{slots, response_descriptor, command_descriptor, response_packet, command_packet, buffers_start, memory_size, owner_word}
use Rattle.uda_host.specs.Host.{BuffersStay}
use Rattle.uda_host.specs.Slots.{RingSlot, slot_at, command_at, response_at, posted_slot, with_command, IsFree, IsOpen, RingsHold, InLayout, WritesSlot}

pub both_stay : {memory between after : List ℕ} → BuffersStay memory between → BuffersStay between after
    → BuffersStay memory after
both_stay {memory} {between} {after} first then =
    record { below = changes_again memory between after 0 buffers_start first.below then.below }

-- a write outside a slot
pub slot-put : (memory : List ℕ) (at : ℕ) (bytes : List ℕ) (d p : ℕ) → (Overlap at (length bytes) d 4 → ⊥)
    → (Overlap at (length bytes) p 52 → ⊥) → slot_at (put memory at bytes) d p ≡ slot_at memory d p
slot-put memory at bytes d p ring packet =
    let word = word_at-put_apart memory at bytes in
    let low = word d (λ meet. ring (omega arith)) in let high = word (d + 2) (λ meet. ring (omega arith)) in
    let size = word p (λ meet. packet (omega arith)) in
    let credits = word (p + 2) (λ meet. packet (omega arith)) in
    let text = part-put_apart memory at bytes (p + 4) 48 (λ meet. packet (omega arith)) in
    λ i. record {
      descriptor = record { low = low i; high = high i };
      size = size i;
      credits = credits i;
      text = text i;
    }

-- ---- a slot is written, part by part

pub unwritten : {d p : ℕ} (memory : List ℕ) → InLayout d p → length memory ≡ memory_size
    → WritesSlot d p (slot_at memory d p) memory memory
unwritten memory stands size =
    record {
      stands = stands;
      size = size;
      buffers =
          record { below = changes_nothing memory 0 buffers_start };
      holds = refl;
      rest = λ a b there ring packet.
          refl;
    }

module _ {memory m : List ℕ} {d p : ℕ} {s : RingSlot} (w : WritesSlot d p s memory m) where
  -- some bytes of its descriptor or of its packet
  written_more : (at : ℕ) (bytes : List ℕ) (change : RingSlot → RingSlot) → d ≤ at
      → (at < p → at + length bytes ≤ d + 4) → at + length bytes ≤ p + 52 → slot_at (put m at bytes) d p
      ≡ change (slot_at m d p)
      → WritesSlot d p (change s) memory (put m at bytes)
  written_more at bytes change from ring to is = let here = w.stands in record {
    stands = w.stands;
    size = length-put m at bytes ∙ w.size;
    buffers = both_stay w.buffers
        (record { below = changes_by_put m 0 buffers_start at bytes (omega arith) (omega arith) });
    holds = is ∙ ap change w.holds;
    rest = λ a b there rings packets. slot-put m at bytes a b (λ meet. rings (omega arith))
        (λ meet. packets (omega arith)) ∙ w.rest a b there rings packets;
  }

  module _ (word : ℕ) (fits : word < 2 ^ 16) where
    pub low_written : WritesSlot d p (record s { descriptor = record s.descriptor { low = word } }) memory
        (put m d (word_bytes word))
    low_written =
        let width = length-word_bytes word in let here = w.stands in let room = w.size in
        let is = word_at-put_at m d word (omega arith) fits in
        let same = word_at-put_apart m d (word_bytes word) in
        let high = same (d + 2) (λ meet. omega arith) in
        let size = same p (λ meet. omega arith) in let credits = same (p + 2) (λ meet. omega arith) in
        let text = part-put_apart m d (word_bytes word) (p + 4) 48 (λ meet. omega arith) in
        written_more d (word_bytes word)
        (λ (x : RingSlot). record x { descriptor = record x.descriptor { low = word } }) (omega arith)
        (λ less. omega arith) (omega arith)
        (λ i. record {
          descriptor = record { low = is i; high = high i };
          size = size i;
          credits = credits i;
          text = text i;
        })

    pub high_written : WritesSlot d p (record s { descriptor = record s.descriptor { high = word } }) memory
        (put m (d + 2) (word_bytes word))
    high_written =
        let width = length-word_bytes word in let here = w.stands in let room = w.size in
        let is = word_at-put_at m (d + 2) word (omega arith) fits in
        let same = word_at-put_apart m (d + 2) (word_bytes word) in
        let low = same d (λ meet. omega arith) in
        let size = same p (λ meet. omega arith) in let credits = same (p + 2) (λ meet. omega arith) in
        let text = part-put_apart m (d + 2) (word_bytes word) (p + 4) 48 (λ meet. omega arith) in
        written_more (d + 2) (word_bytes word)
        (λ (x : RingSlot). record x { descriptor = record x.descriptor { high = word } }) (omega arith)
        (λ less. omega arith) (omega arith)
        (λ i. record {
          descriptor = record { low = low i; high = is i };
          size = size i;
          credits = credits i;
          text = text i;
        })

    pub size_written : WritesSlot d p (record s { size = word }) memory (put m p (word_bytes word))
    size_written =
        let width = length-word_bytes word in let here = w.stands in let room = w.size in
        let is = word_at-put_at m p word (omega arith) fits in
        let same = word_at-put_apart m p (word_bytes word) in
        let low = same d (λ meet. omega arith) in
        let high = same (d + 2) (λ meet. omega arith) in let credits = same (p + 2) (λ meet. omega arith) in
        let text = part-put_apart m p (word_bytes word) (p + 4) 48 (λ meet. omega arith) in
        written_more p (word_bytes word) (λ (x : RingSlot). record x { size = word }) (omega arith)
        (λ less. absurd (omega arith)) (omega arith)
        (λ i. record {
          descriptor = record { low = low i; high = high i };
          size = is i;
          credits = credits i;
          text = text i;
        })

    pub credits_written : WritesSlot d p (record s { credits = word }) memory
        (put m (p + 2) (word_bytes word))
    credits_written =
        let width = length-word_bytes word in let here = w.stands in let room = w.size in
        let is = word_at-put_at m (p + 2) word (omega arith) fits in
        let same = word_at-put_apart m (p + 2) (word_bytes word) in
        let low = same d (λ meet. omega arith) in
        let high = same (d + 2) (λ meet. omega arith) in let size = same p (λ meet. omega arith) in
        let text = part-put_apart m (p + 2) (word_bytes word) (p + 4) 48 (λ meet. omega arith) in
        written_more (p + 2) (word_bytes word) (λ (x : RingSlot). record x { credits = word }) (omega arith)
        (λ less. absurd (omega arith)) (omega arith)
        (λ i. record {
          descriptor = record { low = low i; high = high i };
          size = size i;
          credits = is i;
          text = text i;
        })

  pub text_written : (text : List ℕ) → length text ≡ 48 → WritesSlot d p (record s { text = text }) memory
      (put m (p + 4) text)
  text_written text long =
      let here = w.stands in let room = w.size in
      let is = part-put_at m (p + 4) 48 text (omega arith) (sym long) in
      let same = word_at-put_apart m (p + 4) text in
      let low = same d (λ meet. omega arith) in
      let high = same (d + 2) (λ meet. omega arith) in
      let size = same p (λ meet. omega arith) in let credits = same (p + 2) (λ meet. omega arith) in
      written_more (p + 4) text (λ (x : RingSlot). record x { text = text }) (omega arith)
      (λ less. absurd (omega arith)) (omega arith)
      (λ i. record {
        descriptor = record { low = low i; high = high i };
        size = size i;
        credits = credits i;
        text = is i;
      })

-- ---- the rings

pub command_stands : (i : ℕ) → i < slots → InLayout (command_descriptor i) (command_packet i)
command_stands i low = record { ring = omega arith; packets = omega arith; below = omega arith }

pub response_stands : (i : ℕ) → i < slots → InLayout (response_descriptor i) (response_packet i)
response_stands i low = record { ring = omega arith; packets = omega arith; below = omega arith }

-- the slots of commands are unchanged, and the others remain open
rings_beside : {memory after : List ℕ} {place : ℕ} {queue : List Command} → RingsHold memory place queue
    → length after ≡ memory_size → ((i : ℕ) → i < slots → command_at after i ≡ command_at memory i)
    → ((i : ℕ) → i < slots → IsOpen (response_packet i) (response_at after i)) → RingsHold after place queue
rings_beside {place = place} rings size same opens = record {
  size = size;
  within = rings.within;
  few = rings.few;
  posted = λ k d low. same ((place + k) % slots) (omega arith) ∙ rings.posted k d low;
  free = λ k from low. subst IsFree (sym (same ((place + k) % slots) (omega arith))) (rings.free k from low);
  opens = opens;
}

-- bytes are written to a buffer
pub rings-put : {memory : List ℕ} {place : ℕ} {queue : List Command} (at : ℕ) (bytes : List ℕ)
    → (Overlap at (length bytes) 0 buffers_start → ⊥) → RingsHold memory place queue
    → RingsHold (put memory at bytes) place queue
rings-put {memory} at bytes above rings =
    let same = λ (d p : ℕ) (there : InLayout d p). slot-put memory at bytes d p (λ meet. above (omega arith))
    (λ meet. above (omega arith)) in
    rings_beside rings (length-put memory at bytes ∙ rings.size)
    (λ i low. same (command_descriptor i) (command_packet i) (command_stands i low))
    (λ i low. subst (IsOpen (response_packet i))
    (sym (same (response_descriptor i) (response_packet i) (response_stands i low))) (rings.opens i low))

-- a response slot is written
module _ {memory after : List ℕ} {s : RingSlot} (i : ℕ) (within : i < slots)
    (w : WritesSlot (response_descriptor i) (response_packet i) s memory after) where
  pub commands_stay : (j : ℕ) → j < slots → command_at after j ≡ command_at memory j
  commands_stay j low = w.rest (command_descriptor j) (command_packet j) (command_stands j low)
      (λ meet. omega arith) (λ meet. omega arith)

  pub opens_too : IsOpen (response_packet i) s → (j : ℕ) → j < slots
      → (j ≢ i → IsOpen (response_packet j) (response_at memory j))
      → IsOpen (response_packet j) (response_at after j)
  opens_too opened j low others = elim (cases_eq j i) [
    | inl same ↦ subst (λ (k : ℕ). IsOpen (response_packet k) (response_at after k)) (sym same)
        (subst (IsOpen (response_packet i)) (sym w.holds) opened)
    | inr other ↦ subst (IsOpen (response_packet j))
        (sym (w.rest (response_descriptor j) (response_packet j) (response_stands j low)
        (λ meet. other (omega arith)) (λ meet. other (omega arith)))) (others other)
  ]

  -- and is open again
  pub rings_answered : {place : ℕ} {queue : List Command} → IsOpen (response_packet i) s
      → RingsHold memory place queue → RingsHold after place queue
  rings_answered opened rings = rings_beside rings w.size commands_stay
      (λ j low. opens_too opened j low (λ other. rings.opens j low))

-- a command slot is written
module _ {memory after : List ℕ} {s : RingSlot} (i : ℕ) (within : i < slots)
    (w : WritesSlot (command_descriptor i) (command_packet i) s memory after) where
  command_beside : (j : ℕ) → j < slots → j ≢ i → command_at after j ≡ command_at memory j
  command_beside j low other = w.rest (command_descriptor j) (command_packet j) (command_stands j low)
      (λ meet. other (omega arith)) (λ meet. other (omega arith))

  still_open : (j : ℕ) → j < slots → IsOpen (response_packet j) (response_at memory j)
      → IsOpen (response_packet j) (response_at after j)
  still_open j low = subst (IsOpen (response_packet j))
      (sym (w.rest (response_descriptor j) (response_packet j) (response_stands j low) (λ meet. omega arith)
      (λ meet. omega arith)))

-- a command is posted after the others
pub rings_posted : {memory after : List ℕ} {place : ℕ} {queue : List Command} (i : ℕ) (c : Command)
    → WritesSlot (command_descriptor i) (command_packet i) (posted_slot i c) memory after
    → length queue < slots
    → i ≡ (place + length queue) % slots
    → RingsHold memory place queue → RingsHold after place (queue ++ c ∷ [])
rings_posted {after = after} {place} {queue} i c w room at rings =
    let long = length_push queue c in let within = rings.within in
    record {
      size = w.size;
      within = rings.within;
      few = omega arith;
      posted = λ k d low. elim (cases_lt k (length queue)) [
        | inl less ↦ rw (get_or_append_left queue (c ∷ []) d k less)
            (command_beside i (omega arith) w ((place + k) % slots) (omega arith) (λ same. omega arith)
            ∙ rings.posted k d less)
        | inr more ↦ rw (get_or_push queue c d k (omega arith))
            (subst (λ (j : ℕ). command_at after j ≡ posted_slot j c) (omega arith) w.holds)
      ];
      free = λ k from low. subst IsFree
          (sym (command_beside i (omega arith) w ((place + k) % slots) (omega arith) (λ same. omega arith)))
          (rings.free k (omega arith) low);
      opens = λ j low. still_open i (omega arith) w j low (rings.opens j low);
    }

pub command_written : (memory : List ℕ) (i : ℕ) (c : Command) → i < slots → length memory ≡ memory_size
    → WritesSlot (command_descriptor i) (command_packet i) (posted_slot i c) memory (with_command memory i c)
command_written memory i c within size =
    let text = text_written
    (credits_written (size_written (unwritten memory (command_stands i within) size) 48 (omega arith)) 0
    (omega arith)) (written_command c) (length-written_command c) in
    high_written (low_written text (command_packet i + 4) (omega arith)) owner_word (omega arith)

-- the command that is posted at the next index; if there is none, that slot is free
pub first_posted : {memory : List ℕ} {place : ℕ} {c : Command} {queue : List Command}
    → RingsHold memory place (c ∷ queue) → command_at memory place ≡ posted_slot place c
first_posted {memory} {c = c} rings =
    let within = rings.within in
    subst (λ (j : ℕ). command_at memory j ≡ posted_slot j c) (omega arith) (rings.posted 0 c (omega arith))

pub first_free : {memory : List ℕ} {place : ℕ} → RingsHold memory place [] → IsFree (command_at memory place)
first_free {memory} rings =
    let within = rings.within in
    subst (λ (j : ℕ). IsFree (command_at memory j)) (omega arith) (rings.free 0 (omega arith) (omega arith))

-- it is fetched, and its slot is free
pub rings_fetched : {memory after : List ℕ} {place : ℕ} {c : Command} {queue : List Command} {s : RingSlot}
    → WritesSlot (command_descriptor place) (command_packet place) s memory after → IsFree s
    → RingsHold memory place (c ∷ queue) → RingsHold after ((place + 1) % slots) queue
rings_fetched {after = after} {place} {queue = queue} w freed rings =
    let within = rings.within in let few = rings.few in
    let next : (k : ℕ) → (place + suc k) % slots ≡ ((place + 1) % slots + k) % slots = λ k. omega arith in
    record {
      size = w.size;
      within = omega arith;
      few = omega arith;
      posted = λ k d low. subst (λ (j : ℕ). command_at after j ≡ posted_slot j (get_or queue k d)) (next k)
          (command_beside place within w ((place + suc k) % slots) (omega arith) (λ same. omega arith)
          ∙ rings.posted (suc k) d (omega arith));
      free = λ k from low. subst (λ (j : ℕ). IsFree (command_at after j)) (next k)
          (elim (cases_lt k (slots - 1)) [
            | inl less ↦ subst IsFree
                (sym (command_beside place within w ((place + suc k) % slots) (omega arith)
                (λ same. omega arith)))
                (rings.free (suc k) (omega arith) (omega arith))
            | inr last ↦ subst (λ (j : ℕ). IsFree (command_at after j)) (omega arith)
                (subst IsFree (sym w.holds) freed)
          ]);
      opens = λ j low. still_open place within w j low (rings.opens j low);
    }
