use Rattle.rect_cover.proofs.TwoPointLaws.{two_point_path}
use Rattle.rect_cover.proofs.laws.a_path_of_two_points_is_one_rectangle.Goals as goal

pub returns : goal.returns
returns c = λ pathtype width begin end first last cell differ. two_point_path first last pathtype width begin end differ cell
