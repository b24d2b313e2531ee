use Rattle.std.proofs.Common.{◌∙◌, ◌≡◌, ap, subst, sym, ℕ}
use Rattle.std.specs.{BTreeMap.is_at, List.{AllByRecursion, list_any}}
use Rattle.krs_model.specs.Queues.{place_cmp}
use Rattle.krs_ctx.proofs.MembersLemmas.{listed_among, of_one}
use Rattle.krs_ctx.proofs.members.Members.other.Goals as goal

pub loop-member-init : goal.loop-member-init
loop-member-init c =
    let g = c.args.group in
    let is = c.into_iter-member-iterator.ensures.into_iter_gives ∙ c.of-member-items.ensures.pairs in
    record {
      mine = subst (AllByRecursion (λ (e : ℕ × ℕ). g ≡ e.0)) (sym is) (of_one g c.args.self.now.pairs.keys);
      rest = λ n other. listed_among c.args.self.now g n ∙ ap (list_any (is_at (place_cmp (g, n)))) (sym is);
    }
