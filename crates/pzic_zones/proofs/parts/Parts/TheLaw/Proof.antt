-- A `&` to a box is made where one to its value is. Assumes `Logic`.
use mathlib.Core.List.{[], ◌++◌}
use base.Fraction.{full_share}
use base.Fml.{Incl-trans}
use contract.BorrowLft.{meet_⊑_left}
use denote.RattleType.{RattleType}
use denote.Memory.{lone}
use denote.RawPtr.{lies_at}
use denote.Shares.{Shares-less}
use denote.Param.Laws.{Laws, row_shared}
use denote.Param.Shared.{copy_shared}
use denote.Struct.Field.{RawPtr-field}
use denote.Struct.Laws.{RawPtr-copy}
use denote.Struct.Lending.{lent_at, lent_at_shr_laws, Lends-lies, Lends-first, of_Lends}
use Rattle.std.specs.declared.alloc.Allocator.{Ghosts}
use Rattle.pzic_zones.specs.contracts.parts.Parts as C
use Rattle.pzic_zones.proofs.parts.Parts.TheLaw.Statement.{statement}
use mir.Raw.{raw as bare}

pub shares : (T B : RattleType) (g : Ghosts B.Denot) (L : Laws T) (K : Laws B) → statement T B g L K
shares T B g L K = of_Lends (C.struct T B g) (C.the_codes T.Denot B.Denot T.coded B.coded) (C.the_heap T B g) (C.the_lent T B g) (λ d p. lent_at_shr_laws T L.shr_laws d.ptr d.value) (copy_shared RawPtr-field RawPtr-copy, (row_shared B K, tt)) (λ M 𝓤 𝓛 d p.
    let l = (C.the_row T B g).lives in
    Lends-first 𝓛 (lies_at T full_share d.ptr d.value) (g.dealloc_token d.alloc (bare (lone T.mir)) d.ptr) (lent_at T d.ptr d.value) l
    (Lends-lies 𝓛 T l d.ptr d.value (Shares-less 𝓛 T T.lives l (Incl-trans (meet_⊑_left (T.lives ++ (B.lives ++ [])) _) (meet_⊑_left T.lives (B.lives ++ []))) (L.shares 𝓛) d.value)))
