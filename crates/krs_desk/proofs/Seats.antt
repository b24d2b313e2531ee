-- Seats after a missed turn, and after a meeting: what holds of them, and what their callers are told.
use Rattle.std.proofs.Common.{[], ◌+◌, ◌∙◌, ◌∷◌, ◌≡◌, ap, Bool, List, None, refl, subst, sym, true, ℕ}
use Rattle.atomic_table.specs.{Seated.TableId, Table.rest}
use Rattle.krs_types.specs.declared.event.Event.{Event}
use Rattle.krs_model.specs.{History.IsLegal, Sound.IsSound, State.State}
use Rattle.krs_model.proofs.History.Legal.{legal_none}
use Rattle.krs_world.specs.Knowing.{fresh, loaded, missed}
use Rattle.krs_desk.specs.Parts.{hand_of, sat}
use Rattle.krs_desk.specs.{Seated.{IsSeated, Me, opening, part, SeeOneList, sitting_of}, Sitting.{Meets, Sitting}}
use Rattle.krs_desk.specs.{Steps.Found, declared.slot.SlotValue.{SlotValue, TheVariants.{Empty, Home}}}

-- the slots in hand, of which this one comes first
pub front : {c : List (ℕ × SlotValue)} {x : ℕ × SlotValue} {xs : List (ℕ × SlotValue)} → c ≡ x ∷ xs → c ≡ x ∷ rest c
front {x = x} e = e ∙ ap (λ l. x ∷ rest l) (sym e)

-- the slot of a seat that has no call in flight
pub own_slot :
    {lane : ℕ} {idle : Bool} {m : Me} → IsSeated lane idle m → (part m).flight ≡ None → m.1 ≡ (lane + 1, Empty) ∷ []
own_slot seated quiet = ap (λ (k : Me). k.1) seated.rests.0 ∙ (λ i. hand_of (quiet i) (sym seated.numbered i))

-- a slot that has one store has no other
pub same_store : (a b : State) → Home a ≡ Home b → a ≡ b
same_store a b e = cc

-- a seat that is dealt
pub fresh_seated :
    (lane : ℕ) (a : State) (m : Me) → IsSound a → m ≡
    (sat a (fresh lane), hand_of (fresh lane).flight (fresh lane).lane)
    → IsSeated lane true m
fresh_seated lane a m sound is = subst (λ (z : Me). IsSeated lane true z) (sym is)
    record {
      rests = (refl, refl);
      unserving = refl;
      tells = refl;
      numbered = refl;
      sound = sound;
      last = a;
      legal = legal_none a;
    }

-- one whose turn was found taken
pub missed_seated :
    {lane : ℕ} {idle : Bool} {m n : Me} → IsSeated lane idle m → n ≡ (sat (opening m) (missed (part m)), m.1)
    → IsSeated lane idle n
missed_seated {lane} {idle} {m} seated is = subst (λ (z : Me). IsSeated lane idle z) (sym is)
    record {
      rests = (ap (λ (k : Me). (sat (opening m) (missed (part m)), k.1)) seated.rests.0, seated.rests.1);
      unserving = seated.unserving;
      tells = seated.tells;
      numbered = seated.numbered;
      sound = seated.sound;
      last = seated.last;
      legal = seated.legal;
    }

-- one that has met another
pub met_seated :
    {lane : ℕ} {idle : Bool} {a : State} {m n : Me} {log : List Event} (last : State) → IsSeated lane idle m → IsSound a
    → n ≡ (sat a (loaded (part m) log), m.1) → IsLegal a log last → IsSeated lane idle n
met_seated {lane} {idle} {a} {m} {log = log} last seated sound is legal =
    subst (λ (z : Me). IsSeated lane idle z) (sym is)
    record {
      rests = (ap (λ (k : Me). (sat a (loaded (part m) log), k.1)) seated.rests.0, seated.rests.1);
      unserving = seated.unserving;
      tells = seated.tells;
      numbered = seated.numbered;
      sound = sound;
      last = last;
      legal = legal;
    }

meets : (k l k' l' : TableId) (a b a' b' : ℕ) (m n : Me) (log : List Event) (last : State)
    → Found (opening m) (part m) log last → Found (opening m) (part n) log last → opening n ≡ opening m
    → Meets (sitting_of k a m) (sitting_of l b n) (sitting_of k' a' (sat (opening m) (loaded (part m) log), m.1))
    (sitting_of l' b' (sat (opening m) (loaded (part n) log), n.1))
meets k l k' l' a b a' b' m n log last f g one = record {
  opening = (refl, refl);
  kept = sym one;
  log = log;
  seen = (refl, refl);
  last = last;
  legal = f.legal;
  first = f.seen;
  second = g.seen;
  own = (f.mine, g.mine);
}

pub meets_at : {k l k' l' : TableId} {a b a' b' : ℕ} {m n m' n' : Me} {s t : Sitting} → sitting_of k a m ≡ s
    → sitting_of l b n ≡ t → SeeOneList m n m' n' → opening n ≡ opening m
    → Meets s t (sitting_of k' a' m') (sitting_of l' b' n')
meets_at {k} {l} {k'} {l'} {a} {b} {a'} {b'} {m} {n} {m'} {n'} view view' sees one =
    subst (λ (z : Sitting × Sitting). Meets z.0 z.1 (sitting_of k' a' m') (sitting_of l' b' n'))
    (λ i. (view i, view' i))
    (subst (λ (z : Me × Me). Meets (sitting_of k a m) (sitting_of l b n) (sitting_of k' a' z.0) (sitting_of l' b' z.1))
    (λ i. (sym sees.first i, sym sees.second i))
    (meets k l k' l' a b a' b' m n sees.log sees.last sees.founds.0 sees.founds.1 one))
