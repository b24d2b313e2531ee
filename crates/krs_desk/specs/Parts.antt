-- The lanes that a token stands for, and how joining and splitting tokens changes them. The form is this project's own.
use Rattle.std.specs.Prelude.{[], ◌+◌, ◌<◌, ◌∷◌, ◌≡◌, ◌≤◌, Bool, false, List, map, None, Option, Some, true, ℕ}
use Rattle.krs_model.specs.State.{State}
use Rattle.krs_world.specs.{Knowing.{fresh, one, view}, declared.view.{Flight.Flight, Part.Part, Standing.Standing}}
use Rattle.krs_world.specs.declared.view.{Standing.TheVariants.{One, Opening, Spent, Two}, View.View}
use Rattle.krs_desk.specs.declared.{slot.SlotValue.{SlotValue, TheVariants.Empty}, token.Sight.Sight}

abbrev pub sight : View → Bool → Sight
sight v laid = record { view = v; laid = laid }

-- a token of one lane, which has its slot where it is to have it
abbrev pub sat : State → Part → Sight
sat opening p = sight (one opening p) false

-- a token of a lane that was just dealt: the lane's slot still lies on the table
abbrev pub dealt : State → Part → Sight
dealt opening p = sight (one opening p) true

-- a token that stands for no lane
abbrev pub spent : State → Sight
spent opening = sight (view opening Spent) false

-- what the history is told of the tokens
abbrev pub views_of : List Sight → List View
views_of sights = map (λ s. s.view) sights

-- the slot of the lane lies on the table, since this token is dealing the lane or just got it
abbrev pub IsLaidBy : ℕ → Bool → Standing → Type 0
IsLaidBy lane laid Spent = ⊥
IsLaidBy lane laid (One p) = (laid ≡ true) × (p.lane ≡ lane)
IsLaidBy lane laid (Two p q) = ⊥
IsLaidBy lane laid (Opening n) = n ≤ lane

abbrev pub IsLaid : ℕ → Sight → Type 0
IsLaid lane s = IsLaidBy lane s.laid s.view.stands

-- the word of a lane's cell, and the slot of its ask or reply
abbrev pub cell_of : ℕ → ℕ
cell_of lane = lane + 1

-- The lane has a word and a slot. One that was just dealt, whose slot its seat has not taken yet, may have neither, and
-- has done nothing.
abbrev pub IsHoused : ℕ → Bool → Part → Type 0
IsHoused words true p = p ≡ fresh p.lane
IsHoused words false p = cell_of p.lane < words

-- so it is of each lane that a token stands for
abbrev pub AreHousedBy : ℕ → Bool → Standing → Type 0
AreHousedBy words laid Spent = Unit {0}
AreHousedBy words laid (One p) = IsHoused words laid p
AreHousedBy words laid (Two p q) = (cell_of p.lane < words) × (cell_of q.lane < words)
AreHousedBy words laid (Opening n) = Unit {0}

abbrev pub AreHoused : ℕ → Sight → Type 0
AreHoused words s = AreHousedBy words s.laid s.view.stands

-- the slots that a seat has: its lane's, unless a call of its own is in flight
abbrev pub hand_of : Option Flight → ℕ → List (ℕ × SlotValue)
hand_of None lane = (cell_of lane, Empty) ∷ []
hand_of (Some call) lane = []

-- the lane of a token that stands for one, and the first of two
abbrev pub part_of : Standing → Part
part_of Spent = fresh 0
part_of (One p) = p
part_of (Two p q) = p
part_of (Opening lane) = fresh lane

-- the second of two lanes
abbrev pub second_of : Standing → Part
second_of Spent = fresh 0
second_of (One p) = p
second_of (Two p q) = q
second_of (Opening lane) = fresh lane

-- what a split leaves: of two lanes the first, of one none
abbrev pub kept_of : Standing → Standing
kept_of Spent = Spent
kept_of (One p) = Spent
kept_of (Two p q) = One p
kept_of (Opening lane) = Opening (lane + 1)

-- what a split gives: the lane that is dealt, the second of two lanes, or the one
abbrev pub given_of : Standing → Standing
given_of Spent = Spent
given_of (One p) = One p
given_of (Two p q) = One q
given_of (Opening lane) = One (fresh lane)

-- whether the slot of the lane that is given lies on the table
abbrev pub given_laid : Standing → Bool
given_laid Spent = false
given_laid (One p) = false
given_laid (Two p q) = false
given_laid (Opening lane) = true

abbrev pub kept_sight : Sight → Sight
kept_sight s = sight (view s.view.opening (kept_of s.view.stands)) false

abbrev pub given_sight : Sight → Sight
given_sight s = sight (view s.view.opening (given_of s.view.stands)) (given_laid s.view.stands)

-- the lanes of two tokens of one lane each
abbrev pub both_sights : Sight → Sight → Sight
both_sights s t = sight (view s.view.opening (Two (part_of s.view.stands) (part_of t.view.stands))) false

-- each of two tokens stands for one lane
abbrev pub AreOnes : Sight → Sight → Type 0
AreOnes s t = ((p : Part) × (s.view.stands ≡ One p)) × ((q : Part) × (t.view.stands ≡ One q))

-- the first stands for none, and the other for one
abbrev pub IsSpentFor : Sight → Sight → Type 0
IsSpentFor s t = (s.view.stands ≡ Spent) × ((q : Part) × (t.view.stands ≡ One q))

-- the lane of the other token
abbrev pub settled_sight : Sight → Sight → Sight
settled_sight s t = sat t.view.opening (part_of t.view.stands)
