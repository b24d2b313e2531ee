-- Which calls lead from one seat of a desk to another, and what the seat gains by them. The form is this project's own.
use Rattle.std.specs.Prelude.{[], ◌++◌, ◌∷◌, ◌≡◌, ◌≢◌, List, refl}
use Rattle.std.proofs.Common.{◌∙◌, ap, subst, sym}
use Rattle.krs_types.specs.declared.event.Event.{Event}
use Rattle.krs_model.specs.{History.IsLegal, Lists.Begins, State.State}
use Rattle.krs_world.specs.Knowing.{events_of}
use Rattle.krs_desk.specs.Sitting.{Adds, rested, Sitting}
use Rattle.krs_wire.specs.declared.framed.Framed.{Framed}
use Rattle.krs_session.specs.{Events.{asks_in, asks_of}, Session.leave}

-- each call is made at the seat that the one before it left, or that has rested since
abbrev pub MakesCalls : Sitting → List Event → Sitting → Type 0
MakesCalls s [] t = rested s ≡ rested t
MakesCalls s (call ∷ calls) t = (u : Sitting) × Adds s call u × MakesCalls u calls t

pub makes_none : (s : Sitting) → MakesCalls s [] s
makes_none s = refl

-- a call adds the same, whether a turn is kept or not
adds_as : (s t u : Sitting) (e : Event) → rested s ≡ rested t → Adds t e u → Adds s e u
adds_as s t u e same a =
    let back = sym same in record {
      table = a.table ∙ ap (λ (z : Sitting). z.table) back;
      opening = a.opening ∙ ap (λ (z : Sitting). z.opening) back;
      lane = a.lane ∙ ap (λ (z : Sitting). z.part.lane) back;
      upto = a.upto;
      between = a.between;
      last = a.last;
      begins = a.begins;
      legal = subst (λ (z : Sitting). IsLegal z.opening a.upto a.last) back a.legal;
      ends = a.ends ∙ ap (λ (z : Sitting). (z.part.seen ++ a.between) ++ e ∷ []) back;
      mine = a.mine ∙ ap (λ (z : Sitting). z.part.mine ++ e ∷ []) back;
      own = a.own;
    }

makes_as : (s t u : Sitting) (ys : List Event) → rested s ≡ rested t → MakesCalls t ys u → MakesCalls s ys u
makes_as s t u [] same q = same ∙ q
makes_as s t u (y ∷ ys) same q = (q.0, adds_as s t q.0 y same q.1, q.2)

pub makes_both : (s t u : Sitting) (xs ys : List Event) → MakesCalls s xs t → MakesCalls t ys u
    → MakesCalls s (xs ++ ys) u
makes_both s t u [] ys p q = makes_as s t u ys p q
makes_both s t u (x ∷ xs) ys p q = (p.0, p.1, makes_both p.0 t u xs ys p.2 q)

-- Some beginning `upto` of what is now seen is legal from the opening state, begins with all that had been seen, and
-- ends with this call.
pub record SeesUpTo (s : Sitting) (call : Event) (t : Sitting) : Type 0 where
  pub upto : List Event
  pub between : List Event
  pub last : State
  pub begins : Begins upto t.part.seen
  pub legal : IsLegal s.opening upto last
  pub ends : upto ≡ (s.part.seen ++ between) ++ call ∷ []

-- The seat has just these calls more, in this order, and what it had seen begins what it has now seen. Up to each of
-- them that is a legal history; and it has just the seat's calls, where any was made.
pub record Gains (s : Sitting) (calls : List Event) (t : Sitting) : Type 0 where
  pub table : t.table ≡ s.table
  pub opening : t.opening ≡ s.opening
  pub lane : t.part.lane ≡ s.part.lane
  pub mine : t.part.mine ≡ s.part.mine ++ calls
  pub seen : Begins s.part.seen t.part.seen
  pub each : (before after : List Event) (call : Event) → calls ≡ before ++ call ∷ after → SeesUpTo s call t
  pub own : calls ≢ [] → events_of t.part.lane t.part.seen ≡ t.part.mine

abbrev pub GainsTheirCalls : Type 0
GainsTheirCalls = (s t : Sitting) (calls : List Event) → MakesCalls s calls t → Gains s calls t

-- the seat's new calls are what the frames ask, in order, and then one LEAVE
pub record GainsSession (s : Sitting) (frames : List Framed) (calls : List Event) (t : Sitting) : Type 0 where
  pub asks : asks_of calls ≡ asks_in frames ++ leave ∷ []
  pub mine : t.part.mine ≡ s.part.mine ++ calls
  pub gains : Gains s calls t
