-- Link lines: zic(8), FILES.
use Rattle.std.specs.Prelude.{◌≡◌, ℕ, List, [], ◌∷◌, Some, IsTrue}
use Rattle.zic_base.specs.declared.fault.Place.{Place}
use Rattle.zic_lines.specs.declared.keyword.Keyword.TheVariants.{Link}
use Rattle.zic_lines.specs.declared.link as declared
use Rattle.zic_lines.specs.Keyword.{keyword_of}
use Rattle.zic_lines.specs.Name.{is_name}

-- The fields at this place are `Link TARGET LINK-NAME`, and say this of a link.
pub record IsLinkLine (place : Place) (fields : List (List ℕ)) (link : declared.Link.Link) : Type 0 where
  pub keyword : List ℕ
  pub three : fields ≡ keyword ∷ link.target ∷ link.name ∷ []
  pub is_link : keyword_of keyword ≡ Some Link
  pub has_target : IsTrue (is_name link.target)
  pub named : IsTrue (is_name link.name)
  pub located : link.place ≡ place
