use Rattle.std.proofs.Common.{inl, rules}
use Rattle.oct_map.proofs.Marks.{room_made}
use Rattle.oct_map.proofs.mark.Mark.reserve.Goals as goal
use Rattle.oct_map.proofs.mark.Mark.reserve.Goals.{in-Some+in_ok-compact, in_default}

pub returns-clause-made : goal.returns-clause-made
returns-clause-made c = elim c.match-self.branch [
  | in-Some+in_ok-compact w ↦
      room_made _ _ c.args.self.now c.match-self.self-inside.changes c.args.n
      (λ enough. (w.compact.ensures.enough enough).1) w.in_ok-compact.ensures.made (search rules)
      (search rules)
  | in_default w ↦ inl (search rules)
]
