-- What each way out of a function tells of its test.
use mathlib.Core.Path.{refl, ◌≡◌, sym, ap, ◌∙◌}
use mathlib.Core.Bool.{Bool, true, false}
use mathlib.Core.List.{List, []}
use Prim.Native.Nat.{ℕ, ◌+◌, ◌*◌, ◌-◌, ◌/◌, ◌%◌, ◌≤◌, ◌<◌}
use native.Mathlib.Omega.{arith}
use lib.Dec.{eqb, leb}
use lib.ListN.{get_or}
use borrow.Author.Tests.{eq-eqb, ne_eqb, lt-ltb, le-ltb}
use Rattle.basis.specs.Choice.{also, pick}
use Rattle.basis.specs.Fold.{up_to, up_done}
use Rattle.sets.specs.Sets.{has}
use Rattle.packets.specs.declared.Kind.{Kind}
use Rattle.packets.specs.declared.Kind.TheVariants.{Setup, Tdown, Ack, Nack}
use Rattle.packets.specs.declared.Packet.{Packet}
use Rattle.packets.specs.Directions.{goes_back}
use Rattle.check_places.specs.declared.Trip.{Trip}
use Rattle.check_places.specs.declared.Standing.{Standing}
use Rattle.check_places.specs.Look.{track_at, track_of, trip_of, standing_of, frees_up_to, coming, leaving, unit_by}
use Rattle.check_places.specs.Look.{next_by}
use Rattle.check_places.specs.Look.{comes_by, side_by, column_of, out_by, onward_of, nth_of, nack_by, answer_by}
use Rattle.check_places.specs.Look.{cross_by}
use Rattle.check_places.specs.Look.{active_out_as, passive_out_as, active_in_as, passive_in_as, sent_by, received_by}
use Rattle.check_places.specs.Look.{sender_by}
use Rattle.check_places.specs.Look.{router_by, fits_by, Marked, Led, answers}

-- ---- a pair's walk
pub trip_is : (actives : ℕ) (homes : List ℕ) (lengths : List (List ℕ)) (x : Packet) {a p k n : ℕ} → a ≡ x.active
    → p ≡ x.passive → k ≡ get_or homes a 0 → n ≡ get_or (get_or lengths a []) p 0
    → record { home = k; column = actives + p; length = n } ≡ trip_of actives homes lengths x
unfolding trip_of
trip_is actives homes lengths x e f g l = rw (g, l, e, f)

-- ---- a tear-down's hub
pub frees_none : (hub n : ℕ) → hub ≡ 0 → false ≡ frees_up_to hub n
unfolding frees_up_to
frees_none hub n e = rw (le-ltb 0 hub (omega arith))

pub frees_some : (hub n : ℕ) → (hub ≡ 0 → ⊥) → leb hub n ≡ frees_up_to hub n
unfolding frees_up_to
frees_some hub n e = rw (lt-ltb 0 hub (omega arith))

-- ---- at a unit
module _ (v : Standing) (k : Kind) (hub : ℕ) where
  pub coming_off : v.ahead ≡ 0 → false ≡ coming v k hub
  unfolding coming
  coming_off e = rw (eq-eqb v.ahead 0 e)

  pub leaving_off : v.ahead ≡ 0 → false ≡ leaving v k hub
  unfolding leaving
  leaving_off e = rw (eq-eqb v.ahead 0 e)

  module _ (some : v.ahead ≡ 0 → ⊥) where
    pub coming_setup : k ≡ Setup → {n : ℕ} → n ≡ hub → eqb n v.behind ≡ coming v k hub
    unfolding coming
    coming_setup e f = rw (ne_eqb v.ahead 0 some, e, f)

    pub coming_tdown : k ≡ Tdown → {n : ℕ} → n ≡ hub → {b : Bool} → b ≡ frees_up_to n v.ahead → b ≡ coming v k hub
    unfolding coming
    coming_tdown e f g = rw (ne_eqb v.ahead 0 some, e, ← f) g

    pub coming_ack : k ≡ Ack → false ≡ coming v k hub
    unfolding coming
    coming_ack e = rw (ne_eqb v.ahead 0 some, e)

    pub coming_nack : k ≡ Nack → false ≡ coming v k hub
    unfolding coming
    coming_nack e = rw (ne_eqb v.ahead 0 some, e)

    pub leaving_setup : k ≡ Setup → {n : ℕ} → n ≡ hub → eqb n (v.behind + 1) ≡ leaving v k hub
    unfolding leaving
    leaving_setup e f = rw (ne_eqb v.ahead 0 some, e, f)

    pub leaving_tdown : k ≡ Tdown → {n : ℕ} → n ≡ hub → {b : Bool} → b ≡ frees_up_to n (v.ahead - 1)
        → b ≡ leaving v k hub
    unfolding leaving
    leaving_tdown e f g = rw (ne_eqb v.ahead 0 some, e, ← f) g

    pub leaving_ack : k ≡ Ack → false ≡ leaving v k hub
    unfolding leaving
    leaving_ack e = rw (ne_eqb v.ahead 0 some, e)

    pub leaving_nack : k ≡ Nack → {n : ℕ} → n ≡ hub → eqb n v.behind ≡ leaving v k hub
    unfolding leaving
    leaving_nack e f = rw (ne_eqb v.ahead 0 some, e, f)

-- ---- where a router stands
module _ (up : List (List ℕ)) (t : Trip) (r : ℕ) {b : Bool} (e : b ≡ has (track_of up t) r) where
  pub spot_off : b ≡ false → record { behind = 0; ahead = 0 } ≡ standing_of up t r
  unfolding standing_of
  spot_off f = rw (sym e ∙ f)

  module _ (f : b ≡ true) {n : ℕ} (g : n ≡ track_at up r t.column / 65536) where
    pub spot_fits : Marked up t → r < 16 → n ≤ t.length
    spot_fits marked l = rw g (marked.most r l (sym e ∙ f))

    pub spot_on : record { behind = t.length - n; ahead = n } ≡ standing_of up t r
    unfolding standing_of
    spot_on = rw (sym e ∙ f, g)

behind_most : (up : List (List ℕ)) (t : Trip) (r : ℕ) → (standing_of up t r).behind ≤ t.length
unfolding standing_of
behind_most up t r = by (has (track_of up t) r)
  where
    by : (b : Bool)
        → (pick {A = Standing} b
        (record { behind = t.length - track_at up r t.column / 65536; ahead = track_at up r t.column / 65536 })
        (record { behind = 0; ahead = 0 })).behind
        ≤ t.length
    by true = omega arith
    by false = omega arith

pub behind_small : (up : List (List ℕ)) (t : Trip) (r : ℕ) {v : Standing} → Marked up t → v ≡ standing_of up t r
    → v.behind < 256
behind_small up t r marked e =
    rw e (let l = behind_most up t r in let n = marked.long in omega arith)

-- ---- by which side a walk comes in
module _ (joints : List ℕ) (by : List (List ℕ)) (track d port : ℕ) {v : ℕ} (e : v ≡ get_or joints port 0) where
  pub next_none : (v / 64 ≡ 1 → ⊥) → false ≡ next_by joints by track d port
  unfolding next_by
  next_none f = rw (← e, ne_eqb (v / 64) 1 f)

  module _ (router : v / 64 ≡ 1) {b : Bool} (m : b ≡ has track (v / 4 % 16)) where
    pub next_off : b ≡ false → false ≡ next_by joints by track d port
    unfolding next_by
    next_off f = rw (← e, eq-eqb (v / 64) 1 router, ← m, f)

    pub next_on : b ≡ true → {r : Bool} → r ≡ has (get_or (get_or by (v / 4 % 16) []) (v % 4) 0) d
        → r ≡ next_by joints by track d port
    unfolding next_by
    next_on f g = rw (← e, eq-eqb (v / 64) 1 router, ← m, f) g

module _ (joints : List ℕ) (by up : List (List ℕ)) (from d port : ℕ) where
  pub comes_here : from ≡ port → true ≡ comes_by joints by up from d port
  unfolding comes_by
  comes_here e = rw (eq-eqb from port e)

  pub comes_later : (from ≡ port → ⊥) → {b : Bool} → b ≡ next_by joints by (track_at up (from / 4) d) d port
      → b ≡ comes_by joints by up from d port
  unfolding comes_by
  comes_later e f = rw (ne_eqb from port e) f

-- ---- places at a router
module _ (joints : List ℕ) (by up : List (List ℕ)) (t : Trip) (port : ℕ) (k : Kind) (hub : ℕ) {c : Bool}
    (e : c ≡ comes_by joints by up t.home t.column port) where
  pub unit_off : (done : Bool) → c ≡ false → false ≡ unit_by joints by up t port done k hub
  unfolding unit_by
  unit_off done f = rw (← e, f) (sym (also_false (pick done (leaving (standing_of up t (port / 4)) k hub)
      (coming (standing_of up t (port / 4)) k hub))))
    where
      also_false : (b : Bool) → also b false ≡ false
      also_false true = refl
      also_false false = refl

  module _ (on : c ≡ true) {v : Standing} (s : v ≡ standing_of up t (port / 4)) where
    also_on : (b : Bool) → also b true ≡ b
    also_on true = refl
    also_on false = refl

    pub unit_done : (done : Bool) → done ≡ true → {b : Bool} → b ≡ leaving v k hub
        → b ≡ unit_by joints by up t port done k hub
    unfolding unit_by
    unit_done done f g = rw (f, ← e, on, ← s) (g ∙ sym (also_on (leaving v k hub)))

    pub unit_new : (done : Bool) → done ≡ false → {b : Bool} → b ≡ coming v k hub
        → b ≡ unit_by joints by up t port done k hub
    unfolding unit_by
    unit_new done f g = rw (f, ← e, on, ← s) (g ∙ sym (also_on (coming v k hub)))

module _ (joints : List ℕ) (by up : List (List ℕ)) (t : Trip) (port : ℕ) (k : Kind) (hub : ℕ) {v : Standing}
    (e : v ≡ standing_of up t (port / 4)) {c : Bool} (f : c ≡ coming v k hub) where
  pub side_off : c ≡ false → false ≡ side_by joints by up t port k hub
  unfolding side_by
  side_off g = rw (← e, ← f, g)

  pub side_on : c ≡ true → {b : Bool} → b ≡ comes_by joints by up t.home t.column port
      → b ≡ side_by joints by up t port k hub
  unfolding side_by
  side_on g l = rw (← e, ← f, g) l

module _ (routes up : List (List ℕ)) (t : Trip) (r o a : ℕ) (k : Kind) (hub : ℕ) {d s : ℕ} (e : d ≡ column_of t a k)
    (f : s ≡ get_or (get_or routes r []) d 0) where
  pub out_off : (s ≡ o → ⊥) → false ≡ out_by routes up t r o a k hub
  unfolding out_by
  out_off g = rw (← e, ← f, ne_eqb s o g)

  pub out_on : s ≡ o → {v : Standing} → v ≡ standing_of up t r → {b : Bool} → b ≡ leaving v k hub
      → b ≡ out_by routes up t r o a k hub
  unfolding out_by
  out_on g l m = rw (← e, ← f, eq-eqb s o g, ← l) m

-- ---- the n-th router
pub onward_is : (routes : List (List ℕ)) (joints : List ℕ) (d r : ℕ) {s v : ℕ} → s ≡ get_or (get_or routes r []) d 0
    → v ≡ get_or joints (4 * r + s) 0 → v / 4 % 16 ≡ onward_of routes joints d r
unfolding onward_of
onward_is routes joints d r e f = rw (← e, ← f)

module _ (routes : List (List ℕ)) (joints : List ℕ) (t : Trip) {i r : ℕ}
    (e : r ≡ up_to (λ j. onward_of routes joints t.column) i (t.home / 4)) where
  pub led_at : Led routes joints t → i < t.length → get_or (get_or routes r []) t.column 0 < 4
  unfolding nth_of
  led_at led l = rw e (led i l)

  pub nth_done : {n : ℕ} → i ≡ n → r ≡ nth_of routes joints t n
  unfolding nth_of
  nth_done f = up_done (λ j. onward_of routes joints t.column) (t.home / 4) e f

module _ (routes : List (List ℕ)) (joints : List ℕ) (by up : List (List ℕ)) (t : Trip) (a port hub : ℕ) {n : ℕ}
    (e : n ≡ hub) where
  pub nack_none : t.length ≤ n → false ≡ nack_by routes joints by up t a port hub
  unfolding nack_by
  nack_none l = rw (le-ltb hub t.length (omega arith))

  pub nack_some : n < t.length → {d r : ℕ} → d ≡ a → r ≡ nth_of routes joints t n → {b : Bool}
      → b ≡ next_by joints by (track_at up r d) d port → b ≡ nack_by routes joints by up t a port hub
  unfolding nack_by
  nack_some l {d} {r} f g m = rw (lt-ltb hub t.length (omega arith), ← e, ← f, ← g) m

-- ---- answers that cross
pub far_is : (joints : List ℕ) (by up : List (List ℕ)) (at a port : ℕ) {from d : ℕ} → from ≡ at → d ≡ a → {b : Bool}
    → b ≡ comes_by joints by up from d port → b ≡ comes_by joints by up at a port
far_is joints by up at a port e f g = rw (← e, ← f) g

module _ (routes : List (List ℕ)) (joints homes : List ℕ) (by up : List (List ℕ)) (t : Trip) (a port : ℕ) (k : Kind)
    (hub : ℕ) where
  pub answer_setup : k ≡ Setup → false ≡ answer_by routes joints homes by up t a port k hub
  unfolding answer_by
  answer_setup e = rw e

  pub answer_tdown : k ≡ Tdown → false ≡ answer_by routes joints homes by up t a port k hub
  unfolding answer_by
  answer_tdown e = rw e

  module _ {n : ℕ} (e : n ≡ hub) where
    pub ack_other : k ≡ Ack → (n ≡ t.length → ⊥) → false ≡ answer_by routes joints homes by up t a port k hub
    unfolding answer_by
    ack_other f g = rw (f, ← e, ne_eqb n t.length g)

    pub ack_far : k ≡ Ack → n ≡ t.length → {b : Bool}
        → b ≡ comes_by joints by up (get_or homes t.column 0) a port
        → b ≡ answer_by routes joints homes by up t a port k hub
    unfolding answer_by
    ack_far f g l = rw (f, ← e, eq-eqb n t.length g) l

    pub nack_far : k ≡ Nack → n ≡ t.length → {b : Bool}
        → b ≡ comes_by joints by up (get_or homes t.column 0) a port
        → b ≡ answer_by routes joints homes by up t a port k hub
    unfolding answer_by
    nack_far f g l = rw (f, ← e, eq-eqb n t.length g) l

    pub nack_near : k ≡ Nack → (n ≡ t.length → ⊥) → {b : Bool} → b ≡ nack_by routes joints by up t a port hub
        → b ≡ answer_by routes joints homes by up t a port k hub
    unfolding answer_by
    nack_near f g l = rw (f, ne_eqb hub t.length (λ q. g (e ∙ q))) l

  module _ (o : ℕ) {d s : ℕ} (e : d ≡ a) (f : s ≡ get_or (get_or routes (port / 4) []) d 0) where
    pub cross_off : (s ≡ o → ⊥) → false ≡ cross_by routes joints homes by up t a port o k hub
    unfolding cross_by
    cross_off g = rw (← e, ← f, ne_eqb s o g)

    pub cross_on : s ≡ o → {b : Bool} → b ≡ answer_by routes joints homes by up t a port k hub
        → b ≡ cross_by routes joints homes by up t a port o k hub
    unfolding cross_by
    cross_on g l =
        let side = sym (f ∙ ap (λ (i : ℕ). get_or (get_or routes (port / 4) []) i 0) e) ∙ g in
        rw (eq-eqb (get_or (get_or routes (port / 4) []) a 0) o side) l

-- ---- interfaces' queues
module _ (length hub : ℕ) (k : Kind) {n : ℕ} (e : n ≡ hub) where
  pub active_out_setup : k ≡ Setup → eqb n 0 ≡ active_out_as length hub k
  unfolding active_out_as
  active_out_setup f = rw (f, e)

  pub active_out_tdown : k ≡ Tdown → {b : Bool} → b ≡ frees_up_to n length → b ≡ active_out_as length hub k
  unfolding active_out_as
  active_out_tdown f g = rw (f, ← e) g

  pub active_out_ack : k ≡ Ack → false ≡ active_out_as length hub k
  unfolding active_out_as
  active_out_ack f = rw f

  pub active_out_nack : k ≡ Nack → false ≡ active_out_as length hub k
  unfolding active_out_as
  active_out_nack f = rw f

  pub passive_out_setup : k ≡ Setup → false ≡ passive_out_as length hub k
  unfolding passive_out_as
  passive_out_setup f = rw f

  pub passive_out_tdown : k ≡ Tdown → false ≡ passive_out_as length hub k
  unfolding passive_out_as
  passive_out_tdown f = rw f

  pub passive_out_ack : k ≡ Ack → eqb n length ≡ passive_out_as length hub k
  unfolding passive_out_as
  passive_out_ack f = rw (f, e)

  pub passive_out_nack : k ≡ Nack → eqb n length ≡ passive_out_as length hub k
  unfolding passive_out_as
  passive_out_nack f = rw (f, e)

  pub active_in_setup : k ≡ Setup → false ≡ active_in_as length hub k
  unfolding active_in_as
  active_in_setup f = rw f

  pub active_in_tdown : k ≡ Tdown → false ≡ active_in_as length hub k
  unfolding active_in_as
  active_in_tdown f = rw f

  pub active_in_ack : k ≡ Ack → eqb n length ≡ active_in_as length hub k
  unfolding active_in_as
  active_in_ack f = rw (f, e)

  pub active_in_nack : k ≡ Nack → leb n length ≡ active_in_as length hub k
  unfolding active_in_as
  active_in_nack f = rw (f, e)

  pub passive_in_setup : k ≡ Setup → eqb n length ≡ passive_in_as length hub k
  unfolding passive_in_as
  passive_in_setup f = rw (f, e)

  pub passive_in_tdown : k ≡ Tdown → false ≡ passive_in_as length hub k
  unfolding passive_in_as
  passive_in_tdown f = rw f

  pub passive_in_ack : k ≡ Ack → false ≡ passive_in_as length hub k
  unfolding passive_in_as
  passive_in_ack f = rw f

  pub passive_in_nack : k ≡ Nack → false ≡ passive_in_as length hub k
  unfolding passive_in_as
  passive_in_nack f = rw f

module _ (actives length n : ℕ) (x : Packet) {m : ℕ} where
  module _ (l : n < actives) (e : m ≡ x.active) where
    pub sent_other : (n ≡ m → ⊥) → false ≡ sent_by actives length n x
    unfolding sent_by
    sent_other f = rw (lt-ltb n actives l, ← e, ne_eqb n m f)

    pub sent_own : n ≡ m → {b : Bool} → b ≡ active_out_as length x.hub.0 x.kind → b ≡ sent_by actives length n x
    unfolding sent_by
    sent_own f g = rw (lt-ltb n actives l, ← e, eq-eqb n m f) g

    pub received_other : (n ≡ m → ⊥) → false ≡ received_by actives length n x
    unfolding received_by
    received_other f = rw (lt-ltb n actives l, ← e, ne_eqb n m f)

    pub received_own : n ≡ m → {b : Bool} → b ≡ active_in_as length x.hub.0 x.kind
        → b ≡ received_by actives length n x
    unfolding received_by
    received_own f g = rw (lt-ltb n actives l, ← e, eq-eqb n m f) g

  module _ (l : actives ≤ n) (e : m ≡ x.passive) where
    pub answered_other : (n - actives ≡ m → ⊥) → false ≡ sent_by actives length n x
    unfolding sent_by
    answered_other f = rw (le-ltb n actives l, ← e, ne_eqb (n - actives) m f)

    pub answered_own : n - actives ≡ m → {b : Bool} → b ≡ passive_out_as length x.hub.0 x.kind
        → b ≡ sent_by actives length n x
    unfolding sent_by
    answered_own f g = rw (le-ltb n actives l, ← e, eq-eqb (n - actives) m f) g

    pub arrived_other : (n - actives ≡ m → ⊥) → false ≡ received_by actives length n x
    unfolding received_by
    arrived_other f = rw (le-ltb n actives l, ← e, ne_eqb (n - actives) m f)

    pub arrived_own : n - actives ≡ m → {b : Bool} → b ≡ passive_in_as length x.hub.0 x.kind
        → b ≡ received_by actives length n x
    unfolding received_by
    arrived_own f g = rw (le-ltb n actives l, ← e, eq-eqb (n - actives) m f) g

-- ---- answers are what goes back
pub back_answers : (k : Kind) {b : Bool} → b ≡ goes_back k → b ≡ answers k
back_answers Setup e = e
back_answers Tdown e = e
back_answers Ack e = e
back_answers Nack e = e

-- ---- queues by number
module _ (routes : List (List ℕ)) (joints homes : List ℕ) (by up : List (List ℕ)) (t : Trip) (x : Packet) where
  module _ (r o j : ℕ) where
    -- F of set-ups and tear-downs
    pub sender_unit : j ≡ 0 → {d : Bool} → d ≡ answers x.kind → d ≡ false → {b : Bool}
        → b ≡ out_by routes up t r o x.active x.kind x.hub.0
        → b ≡ sender_by routes joints homes by up t x r o j
    unfolding sender_by
    sender_unit e c n f = rw (eq-eqb j 0 e, ← c, n) f

    pub sender_not : j ≡ 0 → {d : Bool} → d ≡ answers x.kind → d ≡ true
        → false ≡ sender_by routes joints homes by up t x r o j
    unfolding sender_by
    sender_not e c n = rw (eq-eqb j 0 e, ← c, n)

    module _ (e : j ≡ 0 → ⊥) where
      -- F of answers
      pub sender_answer : j ≡ 1 → {d : Bool} → d ≡ answers x.kind → d ≡ true → {b : Bool}
          → b ≡ out_by routes up t r o x.active x.kind x.hub.0
          → b ≡ sender_by routes joints homes by up t x r o j
      unfolding sender_by
      sender_answer g c n f = rw (ne_eqb j 0 e, eq-eqb j 1 g, ← c, n) f

      pub sender_never : j ≡ 1 → {d : Bool} → d ≡ answers x.kind → d ≡ false
          → false ≡ sender_by routes joints homes by up t x r o j
      unfolding sender_by
      sender_never g c n = rw (ne_eqb j 0 e, eq-eqb j 1 g, ← c, n)

      module _ (g : j ≡ 1 → ⊥) where
        pub sender_below : j - 2 < o → {b : Bool}
            → b ≡ cross_by routes joints homes by up t x.active (4 * r + (j - 2)) o x.kind x.hub.0
            → b ≡ sender_by routes joints homes by up t x r o j
        unfolding sender_by
        sender_below l f = rw (ne_eqb j 0 e, ne_eqb j 1 g, lt-ltb (j - 2) o l) f

        pub sender_above : o ≤ j - 2 → {b : Bool}
            → b ≡ cross_by routes joints homes by up t x.active (4 * r + (j - 1)) o x.kind x.hub.0
            → b ≡ sender_by routes joints homes by up t x r o j
        unfolding sender_by
        sender_above l f = rw (ne_eqb j 0 e, ne_eqb j 1 g, le-ltb (j - 2) o l) f

  module _ (r k : ℕ) (done : Bool) where
    pub router_side : k < 4 → {b : Bool} → b ≡ side_by joints by up t (4 * r + k) x.kind x.hub.0
        → b ≡ router_by routes joints homes by up t x r k done
    unfolding router_by
    router_side l f = rw (lt-ltb k 4 l) f

    pub router_unit : 4 ≤ k → k < 8 → {b : Bool}
        → b ≡ unit_by joints by up t (4 * r + (k - 4)) done x.kind x.hub.0
        → b ≡ router_by routes joints homes by up t x r k done
    unfolding router_by
    router_unit l e f = rw (le-ltb k 4 l, lt-ltb k 8 e) f

    pub router_sender_lem : 4 ≤ k → 8 ≤ k → {b : Bool}
        → b ≡ sender_by routes joints homes by up t x r ((k - 8) / 5) ((k - 8) % 5)
        → b ≡ router_by routes joints homes by up t x r k done
    unfolding router_by
    router_sender_lem l e f = rw (le-ltb k 4 l, le-ltb k 8 e) f

  module _ (actives outs inner n : ℕ) (done : Bool) where
    pub fits_out : n < outs → {b : Bool} → b ≡ sent_by actives t.length n x
        → b ≡ fits_by routes joints homes by up t x actives outs inner n done
    unfolding fits_by
    fits_out l f = rw (lt-ltb n outs l) f

    module _ (l : outs ≤ n) where
      pub fits_router : n - outs < inner → {b : Bool}
          → b ≡ router_by routes joints homes by up t x ((n - outs) / 28) ((n - outs) % 28) done
          → b ≡ fits_by routes joints homes by up t x actives outs inner n done
      unfolding fits_by
      fits_router m f = rw (le-ltb n outs l, lt-ltb (n - outs) inner m) f

      pub fits_in : inner ≤ n - outs → {b : Bool} → b ≡ received_by actives t.length (n - outs - inner) x
          → b ≡ fits_by routes joints homes by up t x actives outs inner n done
      unfolding fits_by
      fits_in m f = rw (le-ltb n outs l, le-ltb (n - outs) inner m) f
