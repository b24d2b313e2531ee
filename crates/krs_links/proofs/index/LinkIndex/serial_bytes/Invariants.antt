use Rattle.std.proofs.Common.{◌*◌, ◌≡◌, ◌≤◌, length, take, vec_capacity, vec_len}
use Rattle.krs_links.specs.{Indexed.linked, Links.{bytes_of, serials}}
use Rattle.krs_links.proofs.index.LinkIndex.serial_bytes.Given as goal

-- the serials of what the loop has passed, and room for the others
abbrev pub invariant-loop-link : goal.invariant-loop-link
invariant-loop-link l = record {
  bytes : l.bytes.items ≡ bytes_of (take l.link-index (serials (linked l.self)));
  len : vec_len l.bytes ≡ 4 * l.link-index;
  room : 4 * length l.links ≤ vec_capacity l.bytes;
}
