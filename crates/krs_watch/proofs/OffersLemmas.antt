-- Records that come to queues, by their filters or whatever these are.
use Rattle.std.proofs.Common.{[], ◌∙◌, ◌∷◌, ◌≡◌, ap, cond, false, filter, List, nat_cmp, None, Option, option_map, refl}
use Rattle.std.proofs.Common.{Some, true, ℕ}
use Rattle.std.specs.BTreeMap.{is_at}
use Rattle.krs_types.specs.declared.note.Record.{Record}
use Rattle.krs_model.specs.Notes.{Filter.passes_if_any, Posting.{after_note, passes_at, Post, post_all}}
use Rattle.krs_model.specs.{State.Queue, Table.{alter, at, Table}}
use Rattle.krs_model.proofs.Tables.{Changes.alter_none, Distinct.at_alter}
use Rattle.krs_watch.specs.Offers.{offer_all, offered}
use Rattle.krs_watch.proofs.TablesLemmas.{alter_same, alter_still}

-- an offer leaves the filter
filter_stays : (r : Record) (o : Option Queue) (s : Record) → passes_at (option_map (offered r) o) s ≡ passes_at o s
filter_stays r None s = refl
filter_stays r (Some queue) s =
    elim (passes_if_any queue.filter r) as (λ b. passes_if_any (cond b (after_note r queue) queue).filter s
    ≡ passes_if_any queue.filter s) [ true ↦ refl | false ↦ refl ]

passes_same : (queues : Table Queue) (k q : ℕ) (r s : Record) →
    passes_at (at (alter queues k (offered r)) q) s ≡ passes_at (at queues q) s
passes_same queues k q r s =
    ap (λ o. passes_at o s) (at_alter queues k q (offered r))
    ∙ elim (is_at (nat_cmp q) k) as (λ b. passes_at (cond b (option_map (offered r) (at queues q)) (at queues q)) s
    ≡ passes_at (at queues q) s) [ true ↦ filter_stays r (at queues q) s | false ↦ refl ]

-- which posts the filters pass, before and after an offer
passing_same : (queues : Table Queue) (k : ℕ) (r : Record) (ps : List Post) →
    filter (λ p. passes_at (at (alter queues k (offered r)) p.0) p.1) ps
    ≡ filter (λ p. passes_at (at queues p.0) p.1) ps
passing_same queues k r [] = refl
passing_same queues k r (p ∷ ps) =
    let after = filter (λ d. passes_at (at (alter queues k (offered r)) d.0) d.1) ps in
    ap (λ b. cond b (p ∷ after) after) (passes_same queues k p.0 r p.1)
    ∙ ap (λ (ds : List Post). cond (passes_at (at queues p.0) p.1) (p ∷ ds) ds) (passing_same queues k r ps)

-- an offer that passes is a post, and another changes nothing
offer_here : (queues : Table Queue) (k : ℕ) (r : Record) (o : Option Queue) → at queues k ≡ o →
    alter queues k (offered r) ≡ cond (passes_at o r) (alter queues k (after_note r)) queues
offer_here queues k r None h = alter_none queues k (offered r) h
offer_here queues k r (Some queue) h =
    elim (passes_if_any queue.filter r) as (λ b. passes_if_any queue.filter r ≡ b
    → alter queues k (offered r) ≡ cond b (alter queues k (after_note r)) queues) [
      | true ↦ λ t. alter_same queues k (offered r) (after_note r) queue h
          (ap (λ b. cond b (after_note r queue) queue) t)
      | false ↦ λ t. alter_still queues k (offered r) queue h (ap (λ b. cond b (after_note r queue) queue) t)
    ] refl

-- to offer records one by one is to post those that the filters pass at first
pub offers_are_posts : (ps : List Post) (queues : Table Queue) →
    offer_all ps queues ≡ post_all (filter (λ p. passes_at (at queues p.0) p.1) ps) queues
offers_are_posts [] queues = refl
offers_are_posts (p ∷ ps) queues =
    let rest = filter (λ d. passes_at (at queues d.0) d.1) ps in
    offers_are_posts ps (alter queues p.0 (offered p.1))
    ∙ (ap (λ (ds : List Post). post_all ds (alter queues p.0 (offered p.1))) (passing_same queues p.0 p.1 ps)
    ∙ (ap (λ (zs : Table Queue). post_all rest zs) (offer_here queues p.0 p.1 (at queues p.0) refl)
    ∙ elim (passes_at (at queues p.0) p.1) as (λ b. post_all rest (cond b (alter queues p.0 (after_note p.1)) queues)
    ≡ post_all (cond b (p ∷ rest) rest) queues) [ true ↦ refl | false ↦ refl ]))
