mod StepBounds
