use Rattle.std.proofs.Common.{◌++◌, ◌+◌, ◌-◌, ◌≡◌, ◌≤◌, length, vec_capacity, vec_len}
use Rattle.krs_model.specs.Notes.{Bytes.bytes_of_all, Front.{behind, front}}
use Rattle.krs_watch.proofs.queue.take_front.Given as goal

-- what was taken and what will be are the front, for all of which there is room
abbrev pub invariant-taking : goal.invariant-taking
invariant-taking l = record {
  bytes : l.bytes.items ++ bytes_of_all (front (l.room - vec_len l.bytes) l.ring.waiting)
      ≡ bytes_of_all (front l.room l.fn.ring.waiting);
  rest : behind (l.room - vec_len l.bytes) l.ring.waiting ≡ behind l.room l.fn.ring.waiting;
  same : l.ring.capacity ≡ l.fn.ring.capacity;
  within : vec_len l.bytes ≤ l.room;
  grown : vec_len l.bytes + length (bytes_of_all (front (l.room - vec_len l.bytes) l.ring.waiting))
      ≤ vec_capacity l.bytes;
  bound : vec_len l.bytes + length (bytes_of_all (front (l.room - vec_len l.bytes) l.ring.waiting)) ≤ 98312;
}

abbrev pub decreases-taking : goal.decreases-taking
decreases-taking l = length l.ring.waiting
