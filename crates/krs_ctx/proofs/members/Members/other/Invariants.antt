use Rattle.std.proofs.Common.{◌≡◌, ◌≢◌, ℕ}
use Rattle.std.specs.{BTreeMap.is_at, List.{AllByRecursion, list_any}}
use Rattle.krs_model.specs.Queues.{place_cmp}
use Rattle.krs_ctx.specs.Members.{lists}
use Rattle.krs_ctx.proofs.members.Members.other.Given as goal

-- another of the group is among what is left
abbrev pub invariant-loop-member : goal.invariant-loop-member
invariant-loop-member l = record {
  mine : AllByRecursion (λ (e : ℕ × ℕ). l.group ≡ e.0) l.member-iterator;
  rest : (n : ℕ) → n ≢ l.number → lists l.self l.group n ≡ list_any (is_at (place_cmp (l.group, n))) l.member-iterator;
}
