use Rattle.std.proofs.Common.{◌%◌, ap, sym, ◌∙◌, w32, rules}
use Rattle.lists.proofs.Words.{to_z-of_z}
use mir.Val.{SFits}
use Rattle.rect_cover.proofs.StyleLaws.{even_by_amount, amount_of_even}
use Rattle.rect_cover.proofs.style.PathStyle.has_even_width.Goals as goal

pub returns : goal.returns
returns c =
    let fits : SFits w32 c.args.self.width = search rules in
    let same = simp to_z-of_z at c.unsigned_abs.ensures.value in (
      λ h. even_by_amount c.args.self.width (ap (λ n. n % 2) (sym same) ∙ c.is_multiple_of.ensures.0 h),
      λ even. c.is_multiple_of.ensures.1 (ap (λ n. n % 2) same ∙ amount_of_even c.args.self.width even),
    )
