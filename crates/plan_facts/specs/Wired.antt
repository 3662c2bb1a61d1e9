-- A plan whose joints are wired as document 01 wants them, as facts for those who walk through it.
use Rattle.std.specs.Prelude.{◌≡◌, ℕ, ◌<◌}
use Rattle.plan.specs.declared.Joint.TheVariants.{Nothing}
use Rattle.plan.specs.Plan.{Plan, Interface, R, Has, joint_of}
use Rattle.plan.specs.Rules.{NamedBack, JoinedAt, home}

-- Joints stand inside the plan, router joints are named back by another router, each interface is joined at its home
-- alone, and each joined interface is the plan's.
pub record Wired (pl : Plan) : Type 0 where
  pub inside : (r s : ℕ) → (pl.joint r s ≡ Nothing → ⊥) → (r < R pl) × (s < 4)
  pub named : NamedBack pl
  pub joined : (e : Interface) → Has pl e → JoinedAt pl e (home pl e)
  pub known : (r s : ℕ) (e : Interface) → pl.joint r s ≡ joint_of e → Has pl e
