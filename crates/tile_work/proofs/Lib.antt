mod WorkLaws
mod ShareLaws
mod SumLaws
