-- Two views that answer alike: what the calls of one are made on is told by what those of the other are made on, where
-- something holds that calls keep. A program that waits on the one waits on the other.
use mathlib.Core.Path.{◌≡◌, refl, sym, ap, subst, ◌∙◌}
use mathlib.Core.List.{List, [], ◌∷◌}
use Rattle.rules.specs.Calls.{Call, execute, write}
use Rattle.theory_drain.specs.Waits.{View, after, Made, Could, WriteIn, first, ProgramWaits}

module _ {X Y : Type 0} (v : View X) (u : View Y) (f : X → Y) (Kept : X → Type 0)
    (keeps : (c : Call) (x : X) → Kept x → Kept (v.next c x))
    (answers : (c : Call) (x : X) → Kept x → u.answer c (f x) ≡ v.answer c x)
    (nexts : (c : Call) (x : X) → Kept x → u.next c (f x) ≡ f (v.next c x)) where
  kept_after : (cs : List Call) (x : X) → Kept x → Kept (after v cs x)
  kept_after [] x k = k
  kept_after (c ∷ cs) x k = kept_after cs (v.next c x) (keeps c x k)

  after_same : (cs : List Call) (x : X) → Kept x → after u cs (f x) ≡ f (after v cs x)
  after_same [] x k = refl
  after_same (c ∷ cs) x k = ap (after u cs) (nexts c x k) ∙ after_same cs (v.next c x) (keeps c x k)

  answer_same : (c : Call) (cs : List Call) (x : X) → Kept x
      → u.answer c (after u cs (f x)) ≡ v.answer c (after v cs x)
  answer_same c cs x k =
      ap (u.answer c) (after_same cs x k) ∙ answers c (after v cs x) (kept_after cs x k)

  next_same : (c : Call) (cs : List Call) (x : X) → Kept x
      → u.next c (after u cs (f x)) ≡ f (v.next c (after v cs x))
  next_same c cs x k = ap (u.next c) (after_same cs x k) ∙ nexts c (after v cs x) (kept_after cs x k)

  made_to : (c : Call) (cs : List Call) (x : X) → Kept x → Made v c cs x → Made u c cs (f x)
  made_to c cs x k m =
      record {
        before = m.before;
        behind = m.behind;
        split = m.split;
        done = answer_same c m.before x k ∙ m.done;
      }

  made_from : (c : Call) (cs : List Call) (x : X) → Kept x → Made u c cs (f x) → Made v c cs x
  made_from c cs x k m =
      record {
        before = m.before;
        behind = m.behind;
        split = m.split;
        done = sym (answer_same c m.before x k) ∙ m.done;
      }

  could_to : (c : Call) (cs : List Call) (x : X) → Kept x → Could v c cs x → Could u c cs (f x)
  could_to c cs x k m =
      record {
        before = m.before;
        behind = m.behind;
        split = m.split;
        can = answer_same c m.before x k ∙ m.can;
      }

  module _ {cs : List Call} {x : X} (k : Kept x) (w : WriteIn v cs x) where
    abbrev here : X
    here = first v w

    kept_here : Kept here
    kept_here = keeps execute (after v w.before x) (kept_after w.before x k)

    here_same : u.next execute (after u w.before (f x)) ≡ f here
    here_same = next_same execute w.before x k

    abbrev write_to : WriteIn u cs (f x)
    write_to =
        record {
          before = w.before;
          within = w.within;
          behind = w.behind;
          split = w.split;
          opens = answer_same execute w.before x k ∙ w.opens;
          stays = λ m. w.stays
              (made_from write w.within here kept_here (subst (Made u write w.within) here_same m));
          closes =
              ap (λ (y : Y). u.answer write (after u w.within y)) here_same
              ∙ answer_same write w.within here kept_here
              ∙ w.closes;
        }

    could_there : (c : Call) → Could v c w.within here → Could u c w.within (first u write_to)
    could_there c m =
        subst (Could u c w.within) (sym here_same) (could_to c w.within here kept_here m)

    made_here : (c : Call) → Made u c w.within (first u write_to) → Made v c w.within here
    made_here c m = made_from c w.within here kept_here (subst (Made u c w.within) here_same m)

  -- A program that waits on the one waits on the other.
  pub waits_from : (cs : List Call) (x : X) → Kept x → ProgramWaits u cs (f x) → ProgramWaits v cs x
  waits_from cs x k z =
      record {
        stops = λ c a m. z.stops c a (made_to c cs x k m);
        replies = λ w p c m.
            let r = z.replies (write_to k w) p c (could_there k w _ m) in (r.0, made_here k w _ r.1);
        drops = λ w a m. made_here k w _ (z.drops (write_to k w) a (could_there k w _ m));
      }
