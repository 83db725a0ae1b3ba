-- A `&` to a grant has nothing. Assumes `Logic`.
use denote.RattleType.{RattleType}
use denote.RawPtr.{RawPtr}
use denote.Param.Laws.{Laws}
use denote.Param.Shared.{copy_shared}
use denote.SharingLaws.{nothing_shr_laws}
use denote.Struct.Laws.{field_copy}
use denote.Struct.Lending.{of_Lends, Lends-nothing}
use Rattle.std.specs.declared.alloc.Allocator.{Ghosts}
use Rattle.std.specs.contracts.marker.PhantomData as mark
use Rattle.oct_cells.specs.contracts.cells.Grant as grant
use Rattle.oct_cells.proofs.cells.Grant.TheLaw.Statement.{statement}

pub shares : (R A : RattleType) (g : Ghosts A.Denot) (laws : Laws R) (alloc_laws : Laws A)
    → statement R A g laws alloc_laws
shares R A g laws alloc_laws =
    of_Lends (grant.struct R A g)
    (grant.the_codes R.Denot A.Denot R.coded A.coded (mark.the_row RawPtr).coded)
    (grant.the_heap R A g) (grant.the_lent R A g)
    (λ d p. nothing_shr_laws)
    (copy_shared (mark.the_field RawPtr) (field_copy (mark.the_type RawPtr) tt), tt)
    (λ M 𝓤 𝓛 d p. Lends-nothing 𝓛 (grant.the_heap R A g d) (grant.the_row R A g).lives)
