use Rattle.std.proofs.Common.{◌+◌, ◌∙◌, ◌≡◌, ◌≤◌, ap, arith, drop, false, flat_map, length, subst, sym, ℕ}
use Rattle.std.specs.List.{list_any}
use Rattle.krs_model.specs.Levels.{levels, search_depth}
use Rattle.krs_walk.specs.{Lists.join, Seeking.{heads, links_it, nested}}
use Rattle.krs_walk.proofs.DepthLemmas.{any_heads}
use Rattle.krs_walk.proofs.RoundsLemmas.{IsSearch, longer, search_behind, search_finds, search_goes_on}
use Rattle.krs_walk.proofs.possession.Sought.is_linked_below.Goals as goal

pub next_level-requires-2-clause-start : goal.next_level-requires-2-clause-start
next_level-requires-2-clause-start c =
    let all = c.join_attached.new.seen in
    subst (λ (n : ℕ). n ≤ length c.next_level.new.seen) (sym c.in_ok-below.ensures.place)
    (longer all (flat_map (nested c.args.self.now) (drop 0 all)) c.next_level.new.seen c.in_ok-below.ensures.joined)

pub loop-level-init : goal.loop-level-init
loop-level-init c =
    let s = c.args.self.now in
    let near : list_any (links_it s) (levels (nested s) (heads s) 2) ≡ false =
    any_heads (links_it s) (nested s) (heads s) 2 ∙ c.requires.near in
    subst (λ (n : ℕ). IsSearch (links_it s) (nested s) (heads s) 2 n c.next_level-2.new.seen)
    (sym c.in_ok-start.ensures.place)
    (search_behind (links_it s) (nested s) (heads s) c.join_attached.new.seen c.next_level.new.seen
    c.next_level-2.new.seen (c.in_ok-join_attached.ensures ∙ ap (λ zs. join zs (heads s)) c.requires.seen) near
    c.in_ok-below.ensures.joined
    (subst (λ (n : ℕ). c.next_level-2.new.seen ≡ join c.next_level.new.seen (flat_map (nested s)
    (drop n c.next_level.new.seen))) c.in_ok-below.ensures.place c.in_ok-start.ensures.joined))

pub loop-level-preserved : goal.loop-level-preserved
loop-level-preserved c =
    let s = c.args.self.now in
    let seen = c.next_level-in-loop-level.new.seen in
    subst (λ (n : ℕ). IsSearch (links_it s) (nested s) (heads s) (c.loop-level.level + 1) n seen)
    (sym c.in_ok-start-2.ensures.place)
    (search_goes_on (links_it s) (nested s) (heads s) c.loop-level.level c.loop-level.start c.loop-level.seen seen
    c.loop-level.invariant (sym c.level_links.ensures ∙ c.if-level_links.false) c.in_ok-start-2.ensures.joined)

pub returns-then-level_links : goal.returns-then-level_links
returns-then-level_links c =
    let s = c.args.self.now in
    sym (search_finds (links_it s) (nested s) (heads s) c.loop-level.level search_depth c.loop-level.start
    c.loop-level.seen c.loop-level.invariant (omega arith) (sym c.level_links.ensures ∙ c.if-level_links.true))

pub returns : goal.returns
returns c =
    let s = c.args.self.now in
    let last : c.loop-level.level ≡ search_depth = omega arith in
    sym (subst (λ (n : ℕ). list_any (links_it s) (levels (nested s) (heads s) n) ≡ false) last
    c.loop-level.invariant.not_yet)
