mod PushedGrains
