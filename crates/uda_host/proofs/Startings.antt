-- Initialization of a host.
use Rattle.std.proofs.Common.{◌≡◌, ℕ, ◌+◌, ◌-◌, ◌%◌, ◌<◌, ◌≤◌, List, [], length, take, refl, sym, ap, ◌∙◌, arith, subst, replicate}
use Rattle.std.proofs.lemmas.List.{drop-replicate, take-replicate}
use Rattle.std.proofs.lemmas.List.Elements.{All-nil}
use Rattle.byteorder.specs.Endian.{little_number}
use Rattle.uda_mem.specs.Put.{put, part}
use Rattle.uda_mem.specs.Words.{word_at}
use Rattle.uda_mem.proofs.WordLaws.{word_at-put_inside}
use Rattle.uda_packet.specs.declared.command.Command.{Command}
use Rattle.uda_exec.specs.Disks.{ExecState}
use Rattle.uda_port.specs.declared.profile.Profile.TheVariants.{Strict}
use Rattle.uda_port.specs.declared.phase.Phase.{Phase}
use Rattle.uda_port.specs.declared.phase.Phase.TheVariants.{Step1}
use Rattle.uda_port.specs.Startup.{after_sa_write}
use Rattle.uda_port.specs.Port.{PortState, port_at_start}
use Rattle.uda_host.specs.Layout.{rings_word, area_size, slots, memory_size, response_descriptor, command_descriptor, response_packet}
use Rattle.uda_host.specs.Slots.{RingSlot, command_at, response_at, IsFree, IsOpen, WritesSlot}
use Rattle.uda_host.specs.HostPortAgreement.{IsServable}
use Rattle.uda_host.specs.Starting.{port_running}
use Rattle.uda_host.specs.HostInvariant.{HostInvariant}
use Rattle.uda_host.proofs.Slots.{commands_stay, opens_too}

-- ---- the four words

abbrev PortAndMemory : Type 0
PortAndMemory = PortState × List ℕ

abbrev after_word : ℕ → PortAndMemory → PortAndMemory
after_word word x = after_sa_write x.0.phase x.0 x.1 word

abbrev pub Goes : ℕ → PortAndMemory → PortAndMemory → Type 0
Goes word old new = new ≡ after_word word old

-- a port of the strict profile
abbrev strictly : PortState → PortState
strictly p = record p { profile = Strict }

abbrev started_up : PortState → List ℕ → PortAndMemory
started_up p m = (port_running p, put m 4 (replicate area_size 0))

pub four_words : (p p1 p2 p3 p4 : PortState) (m m1 m2 m3 m4 : List ℕ) → p.profile ≡ Strict → p.phase ≡ Step1
    → length m ≡ memory_size
    → Goes rings_word (p, m) (p1, m1) → Goes 8 (p1, m1) (p2, m2) → Goes 0 (p2, m2) (p3, m3)
    → Goes 1 (p3, m3) (p4, m4) → ◌≡◌ {A = PortAndMemory} (p4, m4)
    (port_running p, put m 4 (replicate area_size 0))
four_words p p1 p2 p3 p4 m m1 m2 m3 m4 strict is size first second third fourth =
    let same : p ≡ strictly p = λ i. record p { profile = strict i } in
    let one = first ∙ ap (after_word rings_word) (ap (λ (q : PortState). (q, m)) same)
    ∙ ap (λ (phase : Phase). after_sa_write phase (strictly p) m rings_word) is in
    let three = third ∙ ap (after_word 0) (second ∙ ap (after_word 8) one) in
    let done : after_word 1 (after_word 0 (after_word 8 (after_sa_write Step1 (strictly p) m rings_word)))
    ≡ started_up (strictly p) m = rw size in
    fourth ∙ ap (after_word 1) three ∙ done ∙ ap (λ (q : PortState). started_up q m) (sym same)

-- ---- nothing is posted in a ring of zeros

word-zeros : (n k : ℕ) → k + 2 ≤ n → word_at (replicate n 0) k ≡ 0
unfolding word_at part
word-zeros n k room = ap (λ (l : List ℕ). little_number 2 (take 2 l)) (drop-replicate k n 0)
    ∙ ap (little_number 2) (take-replicate 2 (n - k) 0 (omega arith))

free-zeros : (memory : List ℕ) (i : ℕ) → length memory ≡ memory_size → i < slots
    → IsFree (command_at (put memory 4 (replicate area_size 0)) i)
free-zeros memory i size low =
    let high = word_at-put_inside memory 4 (replicate area_size 0) (command_descriptor i + 2) (omega arith)
    (omega arith) (omega arith) in
    omega (arith, high, word-zeros area_size (command_descriptor i + 2 - 4) (omega arith))

-- ---- the responses are opened

-- the first i responses
pub record Opening (start memory : List ℕ) (i : ℕ) : Type 0 where
  pub size : length memory ≡ memory_size
  pub opens : (j : ℕ) → j < i → IsOpen (response_packet j) (response_at memory j)
  pub free : (j : ℕ) → j < slots → IsFree (command_at start j) → IsFree (command_at memory j)

pub opening_more : {start memory after : List ℕ} {s : RingSlot} (i : ℕ) → i < slots
    → WritesSlot (response_descriptor i) (response_packet i) s memory after → IsOpen (response_packet i) s
    → Opening start memory i → Opening start after (i + 1)
opening_more i within w opened o = record {
  size = w.size;
  opens = λ j less. opens_too i within w opened j (omega arith) (λ other. o.opens j (omega arith));
  free = λ j low was. subst IsFree (sym (commands_stay i within w j low)) (o.free j low was);
}

-- ---- the initialized host, with nothing posted yet

pub opened : {S : Type 0} (exec : ExecState) (start zeroed memory : List ℕ) (port : PortState)
    (posted : List Command) → length start ≡ memory_size → zeroed ≡ put start 4 (replicate area_size 0)
    → length memory ≡ memory_size
    → ((i : ℕ) → i < slots → IsOpen (response_packet i) (response_at memory i))
    → ((i : ℕ) → i < slots → IsFree (command_at zeroed i) → IsFree (command_at memory i))
    → port ≡ port_running (port_at_start Strict exec) → posted ≡ []
    → HostInvariant {S = S} (record {
      memory = memory;
      command_place = 0;
      response_place = 0;
      held = 1;
      posted = posted;
      port = port;
    })
opened exec start zeroed memory port posted size_then zeroed_is size opens kept port_is none =
    rw (port_is, none) (record {
      port = record { strict = refl; runs = refl };
      looks = λ some. absurd (omega arith);
      rings = record {
        commands_are = refl;
        responses_are = refl;
        posts_next = omega arith;
        looks_within =
            omega arith;
      };
      written = record {
        size = size;
        within = omega arith;
        few = omega arith;
        posted = λ k d less. absurd (omega arith);
        free = λ k from low. kept ((0 + k) % slots) (omega arith)
            (subst (λ (m : List ℕ). IsFree (command_at m ((0 + k) % slots))) (sym zeroed_is)
            (free-zeros start ((0 + k) % slots) size_then (omega arith)));
        opens = opens;
      };
      agree = record { credits = omega arith; conserved = omega arith; within = omega arith };
      counts = record { fetched = omega arith; turned = omega arith; credits = omega arith };
      servable = All-nil IsServable;
    })
