-- The effects of the steps of a run: a post, and a turn.
use Rattle.std.specs.Prelude.{◌≡◌, ℕ, ◌+◌, List, Option, Some, None, slice_get, slice_set}
use Rattle.uda_mem.specs.Put.{put}
use Rattle.uda_packet.specs.declared.end.End.{End}
use Rattle.uda_posting.specs.Posting.{posted_command, answer_of, buffer_of, write_payload}
use Rattle.uda_disk.specs.Values.{request_value, answer_value}
use Rattle.uda_disk.specs.declared.answer.Answer.{Answer}
use Rattle.uda_host.specs.Layout.{buffer_address}
use Rattle.uda_host.specs.Host.{HostState, Posts, TurnWithoutEnd, TakesEnd}
use Rattle.uda_driver.specs.Outstanding.{posted_with}
use Rattle.uda_driver.specs.declared.outstanding.Outstanding.{Outstanding}

-- the host after a write of a request's payload into this buffer
abbrev pub with_payload : HostState → ℕ → Outstanding → HostState
with_payload host number one =
    record host {
      memory = put host.memory (buffer_address number) (write_payload (request_value one.request.now).act);
    }

-- one more request is outstanding, with a buffer that was free, and its command is posted
pub record PostsRequest (one : Outstanding) (host : HostState) (out : List (Option Outstanding)) (host_after : HostState)
    (out_after : List (Option Outstanding)) : Type 0 where
  pub number : ℕ
  pub free : slice_get out number ≡ Some None
  pub posts : Posts (posted_command (posted_with number one)) (with_payload host number one) host_after
  pub out_is : out_after ≡ slice_set out number (Some one)

-- a buffer is free
pub record HasFreeBuffer (out : List (Option Outstanding)) : Type 0 where
  pub number : ℕ
  pub stands : slice_get out number ≡ Some None

-- a reference is that of an outstanding request
pub record IsReferred (reference : ℕ) (out : List (Option Outstanding)) : Type 0 where
  pub number : ℕ
  pub one : Outstanding
  pub stands : slice_get out number ≡ Some (Some one)
  pub refers : one.place + 1 ≡ reference

-- the request of an end message is no longer outstanding, and its answer is in the list
pub record ReportsEnd (end : End) (memory : List ℕ) (out : List (Option Outstanding)) (answers : List Answer)
    (out_after : List (Option Outstanding)) (answers_after : List Answer) : Type 0 where
  pub done : IsReferred end.reference out
  pub out_is : out_after ≡ slice_set out done.number None
  pub told : Answer
  pub told_is :
      answer_value told
      ≡ answer_of (request_value done.one.request.now).act end
      (buffer_of (posted_with done.number done.one) memory)
  pub answers_are : answers_after ≡ slice_set answers done.one.place told

-- a turn that changes no answer, or one that writes the answer of the end message that it returned
pub data DriverStep (host : HostState) (out : List (Option Outstanding)) (answers : List Answer)
    (host_after : HostState) (out_after : List (Option Outstanding)) (answers_after : List Answer) : Type 0 where
  NoAnswer : TurnWithoutEnd host host_after → out_after ≡ out → answers_after ≡ answers
      → DriverStep host out answers host_after out_after answers_after
  OneAnswer : (end : End) → TakesEnd host end host_after
      → ReportsEnd end host_after.memory out answers out_after answers_after
      → DriverStep host out answers host_after out_after answers_after
