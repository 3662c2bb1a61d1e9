-- Whatever the calls are made on: a list of calls from one of its calls on.
use mathlib.Core.Path.{◌≡◌, refl, ap}
use mathlib.Core.List.{List, [], ◌∷◌, ◌++◌}
use Rattle.rules.specs.Calls.{Call}
use Rattle.theory_drain.specs.Waits.{View, after, Made, WriteIn, ProgramWaits}

module _ {X : Type 0} (v : View X) where
  pub after_append : (cs ds : List Call) (x : X) → after v (cs ++ ds) x ≡ after v ds (after v cs x)
  after_append [] ds x = refl
  after_append (c ∷ cs) ds x = after_append cs ds (v.next c x)

  -- ---- what is said of a list behind its first call is said of the list
  pub made_later : (k c : Call) (cs : List Call) (x : X) → Made v k cs (v.next c x) → Made v k (c ∷ cs) x
  made_later k c cs x m =
      record {
        before = c ∷ m.before;
        behind = m.behind;
        split = ap (λ (l : List Call). c ∷ l) m.split;
        done = m.done;
      }

  abbrev write_later : (c : Call) (cs : List Call) (x : X) → WriteIn v cs (v.next c x) → WriteIn v (c ∷ cs) x
  write_later c cs x w =
      record {
        before = c ∷ w.before;
        within = w.within;
        behind = w.behind;
        split = ap (λ (l : List Call). c ∷ l) w.split;
        opens = w.opens;
        stays = w.stays;
        closes = w.closes;
      }

  waits_later : (c : Call) (cs : List Call) (x : X) → ProgramWaits v (c ∷ cs) x → ProgramWaits v cs (v.next c x)
  waits_later c cs x k =
      record {
        stops = λ d a m. k.stops d a (made_later d c cs x m);
        replies = λ w. k.replies (write_later c cs x w);
        drops = λ w. k.drops (write_later c cs x w);
      }

  -- A program that waits, waits from each of its calls on.
  pub waits_behind : (cs ds : List Call) (x : X) → ProgramWaits v (cs ++ ds) x → ProgramWaits v ds (after v cs x)
  waits_behind [] ds x k = k
  waits_behind (c ∷ cs) ds x k = waits_behind cs ds (v.next c x) (waits_later c (cs ++ ds) x k)
